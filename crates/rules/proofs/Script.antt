-- A script by the Rust's moves answers what a script by hashes answers: the first state holds the union's k-th smallest, and each move keeps it.
use mathlib.Core.Path.{◌≡◌, refl, sym, ap, ◌∙◌}
use mathlib.Core.Bool.{true, or-false}
use mathlib.Core.List.{List, [], ◌∷◌, map}
use Prim.Native.Nat.{ℕ, suc, ◌+◌, ◌-◌, ◌<◌}
use native.Mathlib.Nat.{not-suc-le-zero}
use native.Mathlib.Omega.{arith}
use lib.ListN.{length, get_or, length-replicate}
use Rattle.base.specs.Pick.{pick}
use Rattle.base.specs.Counting.{count}
use Rattle.base.proofs.Counting.{count-zero, count_none}
use Rattle.base.proofs.Lists.{zeros_at}
use Rattle.rules.specs.Lists.{member}
use Rattle.rules.specs.Score.{union, number_of, pivot_hash}
use Rattle.rules.specs.Script.{Script, active, pivot_of, look, counts_after, no_counts, looks, last_or}
use Rattle.rules.specs.Moves.{Slide, marks, begin, moved, moved_by, slide_look, looks_by_moves}
use Rattle.rules.specs.Ranks.{both, mark, has, Slid}
use Rattle.base.specs.Lists.{All, StrictAsc}
use Rattle.rules.proofs.Score.{strict_same, strict_union, member_union}
use Rattle.rules.proofs.Moves.{none_has, moved_slid, moved-counts}
use Rattle.rules.proofs.Slide.{pivot_is, shared_is, pivot_some, length-ms}

last_at : (d e x : ℕ) (xs : List ℕ) → last_or d (x ∷ xs) ≡ get_or (x ∷ xs) (length xs) e
unfolding last_or
last_at d e x [] = refl
last_at d e x (y ∷ ys) = last_at x e y ys

last_is : (xs : List ℕ) → 0 < length xs → last_or 0 xs ≡ get_or xs (length xs - 1) 0
last_is [] l = absurd (not-suc-le-zero l)
last_is (x ∷ xs) l = last_at 0 0 x xs ∙ ap (λ (n : ℕ). get_or (x ∷ xs) n 0) (let e : length xs ≡ suc (length xs) - 1 = omega arith in e)

none_active : (coords : List ℕ) → active coords (no_counts coords) ≡ []
unfolding active no_counts pick
none_active [] = refl
none_active (c ∷ cs) = none_active cs

union_none : (query : List ℕ) → StrictAsc query → union query [] ≡ query
unfolding member
union_none query r = strict_same (union query []) query (strict_union query []) r (λ h. member_union h query [] ∙ or-false (member h query))

module _ (query coords : List ℕ) (rq : StrictAsc query) (rc : StrictAsc coords) (sub : (h : ℕ) → member h query ≡ true → member h coords ≡ true) (some : 0 < length query) where
  no_lens : length (no_counts coords) ≡ length coords
  unfolding no_counts
  no_lens = length-replicate {A = ℕ} (length coords) 0

  first_pivot : pivot_of query coords (no_counts coords) ≡ number_of coords (last_or 0 query)
  unfolding pivot_of pivot_hash
  first_pivot =
      ap (λ (a : List ℕ). number_of coords (get_or (union query a) (length query - 1) 0)) (none_active coords) ∙
      ap (λ (u : List ℕ). number_of coords (get_or u (length query - 1) 0)) (union_none query rq) ∙ ap (number_of coords) (sym (last_is query some))

  pub begin_slid : Slid (marks query coords) (begin query coords)
  unfolding begin no_counts
  begin_slid =
      let r = pivot_some query coords (no_counts coords) rq rc sub no_lens some in
      let at : number_of coords (last_or 0 query) ≡ r.0 = sym first_pivot ∙ pivot_is query coords (no_counts coords) rq rc sub no_lens r.0 r.1 r.2 in
      let none : count (both (mark (marks query coords)) (has (no_counts coords))) (r.0 + 1) ≡ 0 =
      count_none (both (mark (marks query coords)) (has (no_counts coords))) 0 (r.0 + 1) (omega arith) (λ j l m. omega (arith, none_has (no_counts coords) j (zeros_at (length coords) j))) ∙
      count-zero (both (mark (marks query coords)) (has (no_counts coords))) in
      record {
        lens = no_lens ∙ sym (length-ms query coords (no_counts coords) rq rc sub no_lens);
        at = rw at (record { on = r.2.on; rank = r.2.rank; shared = none });
      }

  -- a state that is slid shows what the definitions say of its counts
  pub slid_look : (s : Slide) → Slid (marks query coords) s → slide_look s ≡ look query coords s.counts
  unfolding slide_look look
  slid_look s k =
      let lens : length s.counts ≡ length coords = k.lens ∙ length-ms query coords (no_counts coords) rq rc sub no_lens in
      let p = pivot_is query coords s.counts rq rc sub lens s.pivot s.shared k.at in
      let t = shared_is query coords s.counts rq rc sub lens s.pivot s.shared k.at in
      rw (p, t)

  walk : (steps kinds : List ℕ) → All (λ (i : ℕ). i < length coords) steps → (s : Slide) → Slid (marks query coords) s
      → map slide_look (moved_by (marks query coords) steps kinds s) ≡ map (look query coords) (counts_after steps kinds s.counts)
  unfolding moved_by counts_after
  walk [] kinds a s k = refl
  walk (i ∷ is) [] a s k = refl
  walk (i ∷ is) (kind ∷ kinds) a s k =
      let l : i < length (marks query coords) = omega (arith, a.0, length-ms query coords (no_counts coords) rq rc sub no_lens) in
      let slid = moved_slid (marks query coords) s k i l kind in
      let counts = moved-counts (marks query coords) s k i l kind in
      let head = slid_look (moved (marks query coords) kind i s) slid ∙ ap (look query coords) counts in
      let rest = walk is kinds a.1 (moved (marks query coords) kind i s) slid ∙ ap (λ (cs : List ℕ). map (look query coords) (counts_after is kinds cs)) counts in
      rw (head, rest)

-- pivot and shared count after each step, by the Rust's moves, are those of the union
pub looks_by_moves_lem : (s : Script) → StrictAsc s.query → StrictAsc s.coords → ((h : ℕ) → member h s.query ≡ true → member h s.coords ≡ true) → 0 < length s.query
    → All (λ (i : ℕ). i < length s.coords) s.indexes → looks_by_moves s ≡ looks s
unfolding looks_by_moves looks begin
looks_by_moves_lem s rq rc sub some fit = walk s.query s.coords rq rc sub some s.indexes s.kinds fit (begin s.query s.coords) (begin_slid s.query s.coords rq rc sub some)
