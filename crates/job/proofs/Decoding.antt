-- What the second pass reads is what the rules decode: the columns are the units of the joined fields, and the first unit of a field that stands once is that field.
-- Assumes nothing.
use Prim.Native.Nat.{ℕ, ◌+◌, ◌/◌, ◌≤◌}
use mathlib.Core.Path.{◌≡◌, refl, sym, ap, ◌∙◌, subst}
use mathlib.Core.Bool.{Bool, true, false}
use mathlib.Core.List.{List, [], ◌∷◌, map}
use native.Mathlib.Omega.{arith}
use borrow.Author.Tests.{eq-eqb, ne_eqb, eqb-true}
use lib.Dec.{eqb}
use Rattle.base.specs.Pick.{pick}
use lib.Ieee.{Float, binary64, of_bits}
use lib.ListN.{length, take, replicate, length-map}
use lib.Seq.{take_all, take-take}
use Rattle.std.proofs.Common.{Bor}
use Rattle.std.specs.Prelude.{Option, Some, None, MatchOption, unwrap_or}
use Rattle.base.specs.Buffers.{over}
use Rattle.rules.specs.Job.{joined_data, mode_of, job_of, number, number_at, units}
use Rattle.job.specs.Units.{fields_in, column_of, float_at, Joined, item_unit, Accepted}
use Rattle.job.specs.Read.{asked_by, asked_of, decoded, decoded_of, lists_of, filled, Items, Estimates}
use Rattle.job.specs.declared.fill.Asked.{Asked}
use Rattle.job.specs.declared.fill.Decoded.{Decoded}
use Rattle.job_fields.specs.Mode.{mode_at}
use Rattle.job_fields.specs.declared.mode.Mode.{Mode}
use Rattle.job_fields.specs.declared.mode.Mode.TheVariants.{Minimizer, Interval}
use Rattle.job_fields.proofs.Picks.{pick_yes, pick_no}
use Rattle.job.proofs.UnitLists.{units_first, units_empty, units_number}
use Rattle.job.proofs.Numbers.{number_in}

-- ---- a field that stands once: its first unit, or, where there is none, no byte

module _ (job : List ℕ) (tag n limit : ℕ) (j : Joined job tag n limit) where
  pub first_at : (u : List ℕ) (us : List (List ℕ)) → column_of job tag n ≡ u ∷ us → take n (joined_data tag (fields_in job)) ≡ u
  first_at u us e = units_first n j.some (joined_data tag (fields_in job)) u us (sym j.is ∙ e)

  pub first_none : column_of job tag n ≡ [] → joined_data tag (fields_in job) ≡ []
  first_none e = units_empty n j.some (joined_data tag (fields_in job)) (sym j.is ∙ e) j.whole

-- 03

module _ (job : List ℕ) (j : Joined job 3 20 1) where
  -- a number in the unit, or in twenty zeros where there is none
  pub number_there : (u : List ℕ) (us : List (List ℕ)) → column_of job 3 20 ≡ u ∷ us → (o : ℕ) → o + 4 ≤ 20 → number_at o 4 u ≡ number_at o 4 (joined_data 3 (fields_in job))
  number_there u us e o h = ap (number_at o 4) (sym (first_at job 3 20 1 j u us e)) ∙ number_in (joined_data 3 (fields_in job)) o 4 20 h

  pub asked_at : (u : List ℕ) (us : List (List ℕ)) → column_of job 3 20 ≡ u ∷ us
      → asked_by (number_at 0 4 u) (number_at 4 4 u) (number_at 8 4 u) (number_at 12 4 u) (number_at 16 4 u) ≡ asked_of (joined_data 3 (fields_in job))
  unfolding asked_of
  asked_at u us e =
      let x₀ = number_there u us e 0 (omega arith) in
      let x₁ = number_there u us e 4 (omega arith) in
      let x₂ = number_there u us e 8 (omega arith) in
      let x₃ = number_there u us e 12 (omega arith) in
      let x₄ = number_there u us e 16 (omega arith) in
      cc

  pub asked_none : column_of job 3 20 ≡ [] → asked_by 0 0 0 0 0 ≡ asked_of (joined_data 3 (fields_in job))
  unfolding asked_of number_at number
  asked_none e = sym (ap asked_of (first_none job 3 20 1 j e))

  abbrev by_unit : List ℕ → Asked
  by_unit u = asked_by (number_at 0 4 u) (number_at 4 4 u) (number_at 8 4 u) (number_at 12 4 u) (number_at 16 4 u)

  -- so of the first unit, or of zeros where there is none
  pub asked_first : (r : Option (Bor (List ℕ))) (zeros x : Bor (List ℕ)) (all left : List (List ℕ)) → all ≡ column_of job 3 20 → MatchOption r (all ≡ []) (λ u. all ≡ u.now ∷ left)
      → zeros.now ≡ replicate 20 0 → x ≡ unwrap_or r zeros
      → asked_by (number_at 0 4 x.now) (number_at 4 4 x.now) (number_at 8 4 x.now) (number_at 12 4 x.now) (number_at 16 4 x.now) ≡ asked_of (joined_data 3 (fields_in job))
  unfolding number_at number
  asked_first None zeros x all left a e z is = ap (λ (l : List ℕ). by_unit l) (ap (λ (b : Bor (List ℕ)). b.now) is ∙ z) ∙ asked_none (sym a ∙ e)
  asked_first (Some u) zeros x all left a e z is = ap (λ (l : List ℕ). by_unit l) (ap (λ (b : Bor (List ℕ)). b.now) is) ∙ asked_at u.now left (sym a ∙ e)

-- 04

module _ (job : List ℕ) (j : Joined job 4 8 1) where
  pub minimum_at : (u : List ℕ) (us : List (List ℕ)) → column_of job 4 8 ≡ u ∷ us → number_at 0 8 u ≡ number (joined_data 4 (fields_in job))
  unfolding number_at
  minimum_at u us e =
      let bytes = joined_data 4 (fields_in job) in
      ap (λ (l : List ℕ). number (take 8 l)) (sym (first_at job 4 8 1 j u us e)) ∙ ap number (take-take 8 8 bytes (omega arith) ∙ take_all 8 bytes j.bytes)

  pub minimum_none : column_of job 4 8 ≡ [] → 0 ≡ number (joined_data 4 (fields_in job))
  unfolding number
  minimum_none e = sym (ap number (first_none job 4 8 1 j e))

  pub minimum_first : (r : Option (Bor (List ℕ))) (zeros x : Bor (List ℕ)) (all left : List (List ℕ)) → all ≡ column_of job 4 8 → MatchOption r (all ≡ []) (λ u. all ≡ u.now ∷ left)
      → zeros.now ≡ replicate 8 0 → x ≡ unwrap_or r zeros → float_at 0 x.now ≡ of_bits binary64 (number (joined_data 4 (fields_in job)))
  unfolding float_at number_at number
  minimum_first None zeros x all left a e z is = ap (float_at 0) (ap (λ (b : Bor (List ℕ)). b.now) is ∙ z) ∙ ap (of_bits binary64) (minimum_none (sym a ∙ e))
  minimum_first (Some u) zeros x all left a e z is = ap (float_at 0) (ap (λ (b : Bor (List ℕ)). b.now) is) ∙ ap (of_bits binary64) (minimum_at u.now left (sym a ∙ e))

-- ---- the lists

module _ (job : List ℕ) (a : Accepted job) where
  -- 05
  query_is : map (number_at 0 8) (column_of job 5 8) ≡ (decoded job).sweep.query
  unfolding decoded job_of units
  query_is = ap (map (number_at 0 8)) a.query.is ∙ sym (units_number (length (joined_data 5 (fields_in job)) / 8) (joined_data 5 (fields_in job)))

  module _ (col : List (List ℕ)) (is : col ≡ column_of job 5 8) where
    pub query_count : length col ≡ length (decoded job).sweep.query
    query_count = sym (length-map col (number_at 0 8)) ∙ ap (λ (us : List (List ℕ)). length (map (number_at 0 8) us)) is ∙ ap length query_is

    pub query_filled : (before after : List ℕ) → after ≡ over (map (number_at 0 8) col) before → after ≡ over (decoded job).sweep.query before
    query_filled before after e = e ∙ ap (λ (l : List ℕ). over l before) (ap (map (number_at 0 8)) is ∙ query_is)

  -- 06, by the size of its units
  module _ (u : ℕ) (size : item_unit (mode_of (fields_in job)) ≡ u) where
    pub items_joined : Joined job 6 u 2048
    items_joined = subst (λ (k : ℕ). Joined job 6 k 2048) size a.items

    items_are : column_of job 6 u ≡ units (item_unit (mode_of (fields_in job))) (joined_data 6 (fields_in job))
    items_are = items_joined.is ∙ ap (λ (k : ℕ). units k (joined_data 6 (fields_in job))) (sym size)

    hashes_are : map (number_at 0 8) (column_of job 6 u) ≡ (decoded job).sweep.hashes
    unfolding decoded job_of item_unit
    hashes_are = ap (map (number_at 0 8)) items_are

    starts_are : map (number_at 8 4) (column_of job 6 u) ≡ (decoded job).sweep.starts
    unfolding decoded job_of item_unit
    starts_are = ap (map (number_at 8 4)) items_are

    -- what was filled of these units
    module _ (col : List (List ℕ)) (is : col ≡ column_of job 6 u) where
      pub items_room : {room : ℕ} → room ≡ 2048 → length col ≤ room
      items_room e = omega (arith, ap length is, items_joined.few)

      pub items_filled : {r : ℕ} {hashes starts ends hashes' starts' ends' : List ℕ} → r ≡ length col → hashes' ≡ over (map (number_at 0 8) col) hashes
          → starts' ≡ over (map (number_at 8 4) col) starts → ends' ≡ over (decoded job).sweep.ends ends → Items (decoded job) r hashes starts ends hashes' starts' ends'
      items_filled {hashes = hashes} {starts} n h s e = record {
        count = n ∙ ap length is ∙ sym (length-map (column_of job 6 u) (number_at 0 8)) ∙ ap length hashes_are;
        hashes_left = h ∙ ap (λ (l : List ℕ). over l hashes) (ap (map (number_at 0 8)) is ∙ hashes_are);
        starts_left = s ∙ ap (λ (l : List ℕ). over l starts) (ap (map (number_at 8 4)) is ∙ starts_are);
        ends_left = e;
      }

  -- positions have no ends
  pub point_size : mode_of (fields_in job) ≡ 0 → item_unit (mode_of (fields_in job)) ≡ 12
  unfolding item_unit
  point_size e = pick_yes _ _ _ (eq-eqb (mode_of (fields_in job)) 0 e)

  pub no_ends : mode_of (fields_in job) ≡ 0 → (ends : List ℕ) → ends ≡ over (decoded job).sweep.ends ends
  unfolding decoded job_of
  no_ends e ends = ap (λ (l : List ℕ). over l ends) (sym (pick_yes _ _ _ (eq-eqb (mode_of (fields_in job)) 0 e)))

  -- intervals have
  pub span_size : (mode_of (fields_in job) ≡ 0 → ⊥) → item_unit (mode_of (fields_in job)) ≡ 16
  unfolding item_unit
  span_size e = pick_no _ _ _ (ne_eqb (mode_of (fields_in job)) 0 e)

  pub ends_are : (mode_of (fields_in job) ≡ 0 → ⊥) → map (number_at 12 4) (column_of job 6 16) ≡ (decoded job).sweep.ends
  unfolding decoded job_of item_unit
  ends_are e = ap (map (number_at 12 4)) (items_are 16 (span_size e)) ∙ sym (pick_no _ _ _ (ne_eqb (mode_of (fields_in job)) 0 e))

  -- what a mode is of
  pub point_mode : Minimizer ≡ mode_at (mode_of (fields_in job)) → mode_of (fields_in job) ≡ 0
  unfolding mode_at pick
  point_mode e = eqb-true (mode_of (fields_in job)) 0 (go (eqb (mode_of (fields_in job)) 0) e)
    where
      go : (b : Bool) → Minimizer ≡ pick b Minimizer Interval → b ≡ true
      go true e = refl
      go false e = absurd (let z : ◌≡◌ {A = ℕ} 0 1 = cc in omega arith)

  pub span_mode : Interval ≡ mode_at (mode_of (fields_in job)) → mode_of (fields_in job) ≡ 0 → ⊥
  unfolding mode_at pick
  span_mode e zero = let z : Interval ≡ Minimizer = e ∙ ap mode_at zero in absurd (let w : ◌≡◌ {A = ℕ} 0 1 = cc in omega arith)

  -- 07
  module _ (col : List (List ℕ)) (col_is : col ≡ column_of job 7 16) where
    pub estimates_room : {room : ℕ} → room ≡ 513 → length col ≤ room
    estimates_room e = omega (arith, ap length col_is, a.estimates.few)

    module _ {r : ℕ} {is us is' us' : List Float} {ib ub ib' ub' : List ℕ} where
      pub estimates_filled : r ≡ length col → is' ≡ over (map (float_at 0) col) is → us' ≡ over (map (float_at 8) col) us
          → ib' ≡ over (map (number_at 0 8) col) ib → ub' ≡ over (map (number_at 8 8) col) ub → Estimates (decoded job) r is us ib ub is' us' ib' ub'
      unfolding decoded job_of float_at
      estimates_filled n i u b v =
          let are = col_is ∙ a.estimates.is in
          record {
            count = n ∙ sym (length-map col (number_at 0 8)) ∙ ap (λ (l : List (List ℕ)). length (map (number_at 0 8) l)) are;
            identities_left = i ∙ ap (λ (l : List (List ℕ)). over (map (float_at 0) l) is) are;
            uppers_left = u ∙ ap (λ (l : List (List ℕ)). over (map (float_at 8) l) us) are;
            identity_bits_left = b ∙ ap (λ (l : List (List ℕ)). over (map (number_at 0 8) l) ib) are;
            upper_bits_left = v ∙ ap (λ (l : List (List ℕ)). over (map (number_at 8 8) l) ub) are;
          }

-- ---- all of it

module _ (job : List ℕ) where
  pub told_decoded : (mode : Mode) (asked : Asked) (minimum : Float) (query items estimates : ℕ)
      → mode ≡ mode_at (mode_of (fields_in job)) → asked ≡ asked_of (joined_data 3 (fields_in job)) → minimum ≡ of_bits binary64 (number (joined_data 4 (fields_in job)))
      → query ≡ length (decoded job).sweep.query → items ≡ length (decoded job).sweep.hashes → estimates ≡ length (decoded job).identity_bits
      → ◌≡◌ {A = Decoded} (record { mode = mode; asked = asked; minimum = minimum; query = query; items = items; estimates = estimates }) (decoded_of (decoded job))
  unfolding decoded_of decoded job_of asked_of
  told_decoded mode asked minimum query items estimates m k x q i e = cc

  pub lists_filled : (q : List ℕ) {q' : List ℕ} {h s e h' s' e' : List ℕ} {is us is' us' : List Float} {ib ub ib' ub' : List ℕ} {n m : ℕ}
      → q' ≡ over (decoded job).sweep.query q → Items (decoded job) n h s e h' s' e' → Estimates (decoded job) m is us ib ub is' us' ib' ub'
      → lists_of q' h' s' e' is' us' ib' ub' ≡ filled (decoded job) (lists_of q h s e is us ib ub)
  unfolding filled
  lists_filled q {q'} {h} {s} {e} {h'} {s'} {e'} {is} {us} {is'} {us'} {ib} {ub} {ib'} {ub'} x i y =
      let a₁ = i.hashes_left in
      let a₂ = i.starts_left in
      let a₃ = i.ends_left in
      let b₁ = y.identities_left in
      let b₂ = y.uppers_left in
      let b₃ = y.identity_bits_left in
      let b₄ = y.upper_bits_left in
      cc
