-- From a stop to the next, by the positions alone: which of b and e moves on is a comparison of two distances, b stays below e since positions never descend
-- and W is at least 1, and the next start is farther exactly where the nearer distance is above 0. Assumes nothing.
use mathlib.Core.Path.{◌≡◌, refl, sym, ap, ◌∙◌}
use mathlib.Core.Logic.{⊎_elim}
use mathlib.Core.Bool.{true, false, and-eq-true_iff}
use mathlib.Core.List.{List}
use Prim.Native.Nat.{ℕ, ◌+◌, ◌-◌, ◌≤◌, ◌<◌, min}
use native.Mathlib.Omega.{arith}
use lib.Dec.{ltb, leb, eqb}
use lib.ListN.{length, get_or, length-map}
use borrow.Author.Tests.{ltb-true, leb-true, lt-ltb, le-ltb, eq-eqb, ne_eqb}
use Rattle.base.specs.Pick.{pick}
use Rattle.base.specs.Lists.{Asc}
use Rattle.std.proofs.lemmas.Bool.{cases_lt}
use Rattle.base.proofs.Lists.{asc_at}
use Rattle.base.proofs.Checks.{pick-le}
use Rattle.rules.specs.Minimizer.{Item, position, goes_on, to_begin, to_end, next_stop, moves}
use Rattle.rules.specs.Minimizer as rules
use Rattle.rules.proofs.MinimizerLocal.{items_positions}
use Rattle.rules.proofs.MinimizerSteps.{next_further}
use Rattle.minimizer_stops.specs.declared.Stop.{Stop}
use Rattle.minimizer_stops.specs.Stops.{sites, stop_of, Step}

module _ (ps : List ℕ) where
  pub site_length : length (sites ps) ≡ length ps
  site_length = sym (length-map (sites ps) (λ (x : Item). x.at)) ∙ ap length (items_positions ps ps refl)

  pub site_at : (i : ℕ) → position (sites ps) i ≡ get_or ps i 0
  unfolding position
  site_at i = ap (λ (xs : List ℕ). get_or xs i 0) (items_positions ps ps refl)

-- ---- whether a stop is scored

module _ (ps : List ℕ) (last : ℕ) (t : rules.Stop) where
  pub goes_past : length ps ≤ t.e → false ≡ goes_on last (sites ps) t
  unfolding goes_on
  goes_past l = rw (le-ltb t.e (length (sites ps)) (omega (arith, site_length ps)))

  pub goes_within : t.e < length ps → leb t.p last ≡ goes_on last (sites ps) t
  unfolding goes_on
  goes_within l = rw (lt-ltb t.e (length (sites ps)) (omega (arith, site_length ps)))

  pub goes_facts : goes_on last (sites ps) t ≡ true → (t.e < length ps) × (t.p ≤ last)
  unfolding goes_on
  goes_facts g =
      let h = (and-eq-true_iff (ltb t.e (length (sites ps))) (leb t.p last)).0 g in
      (omega (arith, ltb-true t.e (length (sites ps)) h.0, site_length ps), leb-true t.p last h.1)

-- ---- the next stop

module _ (ps : List ℕ) (w : ℕ) (t : rules.Stop) where
  -- how far the next item, and the start that takes item e in, lie ahead
  abbrev near : ℕ
  near = get_or ps (t.b + 1) 0 - t.p

  abbrev far : ℕ
  far = get_or ps t.e 0 + 1 - (t.p + w)

  begin_is : to_begin (sites ps) t ≡ near
  unfolding to_begin
  begin_is = rw (site_at ps (t.b + 1))

  end_is : to_end w (sites ps) t ≡ far
  unfolding to_end
  end_is = rw (site_at ps t.e)

  next_when : (x y : ℕ) (u : rules.Stop) → pick {A = ℕ} (eqb (min near far) near) 1 0 ≡ x → pick {A = ℕ} (eqb (min near far) far) 1 0 ≡ y → u.b ≡ t.b + x → u.e ≡ t.e + y → u.p ≡ t.p + min near far
      → u ≡ next_stop w (sites ps) t
  unfolding next_stop
  next_when x y u e f a b c = rw (begin_is, end_is, e, f) (λ d. record { b = a d; e = b d; p = c d })

  pub next_begin : near < far → (u : rules.Stop) → u.b ≡ t.b + 1 → u.e ≡ t.e → u.p ≡ t.p + near → u ≡ next_stop w (sites ps) t
  unfolding pick
  next_begin l u a b c = next_when 1 0 u (rw (eq-eqb (min near far) near (omega arith))) (rw (ne_eqb (min near far) far (omega arith))) a (omega arith) (omega arith)

  pub next_end : far < near → (u : rules.Stop) → u.b ≡ t.b → u.e ≡ t.e + 1 → u.p ≡ t.p + far → u ≡ next_stop w (sites ps) t
  unfolding pick
  next_end l u a b c = next_when 0 1 u (rw (ne_eqb (min near far) near (omega arith))) (rw (eq-eqb (min near far) far (omega arith))) (omega arith) b (omega arith)

  pub next_both : near ≡ far → (u : rules.Stop) → u.b ≡ t.b + 1 → u.e ≡ t.e + 1 → u.p ≡ t.p + far → u ≡ next_stop w (sites ps) t
  unfolding pick
  next_both l u a b c = next_when 1 1 u (rw (eq-eqb (min near far) near (omega arith))) (rw (eq-eqb (min near far) far (omega arith))) a b (omega arith)

  -- ---- what is known of it

  module _ (u : rules.Stop) (is : u ≡ next_stop w (sites ps) t) where
    b_is : u.b ≡ t.b + pick {A = ℕ} (eqb (min near far) near) 1 0
    unfolding next_stop
    b_is = ap (λ (s : rules.Stop). s.b) is ∙ rw (begin_is, end_is)

    e_is : u.e ≡ t.e + pick {A = ℕ} (eqb (min near far) far) 1 0
    unfolding next_stop
    e_is = ap (λ (s : rules.Stop). s.e) is ∙ rw (begin_is, end_is)

    p_is : u.p ≡ t.p + min near far
    unfolding next_stop
    p_is = ap (λ (s : rules.Stop). s.p) is ∙ rw (begin_is, end_is)

    moves_is : moves w (sites ps) t ≡ ltb 0 (min near far)
    unfolding moves
    moves_is = rw (begin_is, end_is)

    pub moves_on : t.p < u.p → moves w (sites ps) t ≡ true
    moves_on l = moves_is ∙ lt-ltb 0 (min near far) (omega (arith, p_is))

    pub moves_not : u.p ≤ t.p → moves w (sites ps) t ≡ false
    moves_not l = moves_is ∙ le-ltb 0 (min near far) (omega (arith, p_is))

    pub further : t.b + t.e < u.b + u.e
    further = rw is (next_further w (sites ps) t)

    -- b stays below e
    pub next_order : Asc ps → 0 < w → t.b < t.e → t.e < length ps → t.p < u.p → u.b < u.e
    unfolding pick
    next_order asc some order inside l =
        ⊎_elim (λ (h : near < far).
        let x : u.b ≡ t.b + 1 = b_is ∙ rw (eq-eqb (min near far) near (omega arith)) in
        let y : u.e ≡ t.e = e_is ∙ rw (ne_eqb (min near far) far (omega arith)) (omega arith) in
        ⊎_elim (λ (k : t.b + 1 < t.e). omega arith)
        (λ (k : t.e ≤ t.b + 1). absurd (omega (arith, asc_at ps asc t.e (t.b + 1) k (omega arith), p_is))) (cases_lt (t.b + 1) t.e))
        (λ (h : far ≤ near).
        let y : u.e ≡ t.e + 1 = e_is ∙ rw (eq-eqb (min near far) far (omega arith)) in
        omega (arith, b_is, pick-le (eqb (min near far) near))) (cases_lt near far)

pub next_step : (ps ns : List ℕ) (w : ℕ) (t u : Stop) → stop_of u ≡ next_stop w (sites ps) (stop_of t) → t.b < t.e → t.e < length ns → Step ns t u
next_step ps ns w t u is order inside =
    let x = pick-le (eqb (min (near ps w (stop_of t)) (far ps w (stop_of t))) (near ps w (stop_of t))) in
    let y = pick-le (eqb (min (near ps w (stop_of t)) (far ps w (stop_of t))) (far ps w (stop_of t))) in
    let b = b_is ps w (stop_of t) (stop_of u) is in
    let e = e_is ps w (stop_of t) (stop_of u) is in
    record {
      begin_up = omega arith;
      begin_one = omega arith;
      end_up = omega arith;
      end_one = omega arith;
      further = further ps w (stop_of t) (stop_of u) is;
      order = order;
      inside = omega arith;
    }
