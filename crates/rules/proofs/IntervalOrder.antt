-- Keys of one position and kind may be handled in any order: the spans are the same for every order of the events that ascends by position, deletes before
-- inserts. It holds because two steps of one kind commute, and no span begins between keys of one position. So the sweep need not sort by coordinate:
-- inserts in the order of their starts and deletes in the order of their ends may be merged.
-- Assumes nothing.
use Prim.Native.Nat.{ℕ, ◌+◌, ◌-◌, ◌/◌, ◌≤◌, ◌<◌, min, max}
use native.Mathlib.Omega.{arith}
use mathlib.Core.Path.{◌≡◌, refl, sym, ap, ◌∙◌}
use mathlib.Core.Logic.{⊎_elim, ◌≢◌}
use mathlib.Core.List.{List, [], ◌∷◌, ◌++◌, map}
use lib.ListN.{get_or}
use lib.Seq.{get_or-set_other, set_comm}
use lib.Dec.{eqb}
use borrow.Author.Tests.{eq-eqb}
use Rattle.base.specs.Pick.{pick}
use Rattle.base.specs.Lists.{All, Asc}
use Rattle.base.specs.Sort.{insert, sort_of}
use Rattle.base.proofs.Lists.{all_map}
use Rattle.std.proofs.lemmas.Bool.{cases_lt, cases_eq}
use Rattle.base.proofs.Sort.{all_sort, asc_sort, insert_front}
use Rattle.rules.specs.Script.{stepped}
use Rattle.rules.specs.Sweep.{Sweep, Scored}
use Rattle.rules.specs.Interval.{event_at, event_kind, event_coord, events, beginning, span, spans_from, spans}

-- two steps of one kind commute
pub stepped_comm : (kind i j : ℕ) (ns : List ℕ) → stepped kind i (stepped kind j ns) ≡ stepped kind j (stepped kind i ns)
unfolding stepped
stepped_comm kind i j ns = ⊎_elim (λ (e : i ≡ j). rw e) (λ (n : i ≢ j). apart n) (cases_eq i j)
  where
    to : ℕ → ℕ
    to x = pick (eqb kind 1) (x + 1) (x - 1)

    apart : i ≢ j → stepped kind i (stepped kind j ns) ≡ stepped kind j (stepped kind i ns)
    apart n = rw (get_or-set_other ns j i (to (get_or ns j 0)) 0 n, get_or-set_other ns i j (to (get_or ns i 0)) 0 (λ e. n (sym e))) (set_comm ns j i (to (get_or ns j 0)) (to (get_or ns i 0)) (λ e. n (sym e)))

-- a key without its coordinate: its position, and its kind
abbrev pub turn : ℕ → ℕ
turn k = k / 65536

turn_at : (j k : ℕ) → turn j ≡ turn k → event_at j ≡ event_at k
unfolding event_at
turn_at j k e = omega arith

turn_kind : (j k : ℕ) → turn j ≡ turn k → event_kind j ≡ event_kind k
unfolding event_kind
turn_kind j k e = omega arith

module _ (s : Sweep) where
  swap_keys : (from : ℕ) (counts : List ℕ) (j k : ℕ) (ks : List ℕ) → turn j ≡ turn k → spans_from s from counts (j ∷ k ∷ ks) ≡ spans_from s from counts (k ∷ j ∷ ks)
  unfolding spans_from pick
  swap_keys from counts j k ks e =
      rw (turn_at j k e, turn_kind j k e, eq-eqb (event_at k) (event_at k) refl, stepped_comm (event_kind k) (event_coord k) (event_coord j) counts)

  insert_key : (k : ℕ) (ys : List ℕ) → Asc ys → All (λ y. turn k ≤ turn y) ys → (from : ℕ) (counts : List ℕ) → spans_from s from counts (insert k ys) ≡ spans_from s from counts (k ∷ ys)
  unfolding insert spans_from
  insert_key k [] r a from counts = refl
  insert_key k (y ∷ ys) r a from counts =
      ⊎_elim (λ (l : y < k).
      let lo : min k y ≡ y = omega arith in
      let hi : max k y ≡ k = omega arith in
      rw (lo, hi, insert_key k ys r.1 a.1 (event_at y) (stepped (event_kind y) (event_coord y) counts)) (swap_keys from counts y k ys (omega (arith, a.0))))
      (λ (l : k ≤ y). ap (spans_from s from counts) (insert_front k (y ∷ ys) (l, all_map (λ z. y ≤ z) (λ z. k ≤ z) (λ z m. omega arith) ys r.0) r)) (cases_lt y k)

  all_turns : (v : ℕ) (ks : List ℕ) → All (λ t. v ≤ t) (map turn ks) → All (λ k. v ≤ turn k) ks
  all_turns v [] a = tt
  all_turns v (k ∷ ks) a = (a.0, all_turns v ks a.1)

  pub spans_sort : (ks : List ℕ) → Asc (map turn ks) → (from : ℕ) (counts : List ℕ) → spans_from s from counts (sort_of ks) ≡ spans_from s from counts ks
  unfolding sort_of spans_from
  spans_sort [] r from counts = refl
  spans_sort (k ∷ ks) r from counts =
      insert_key k (sort_of ks) (asc_sort ks) (all_sort (λ y. turn k ≤ turn y) ks (all_turns (turn k) ks r.0)) from counts ∙
      ap (λ (zs : List Scored). pick (eqb (event_at k) from) [] (span s counts from (event_at k - 1) ∷ []) ++ zs)
      (spans_sort ks r.1 (event_at k) (stepped (event_kind k) (event_coord k) counts))

  -- the events in any such order give the sweep's spans
  pub spans_any : (ks : List ℕ) → sort_of ks ≡ events s → Asc (map turn ks) → spans_from s s.range.start (beginning s) ks ≡ spans s
  unfolding spans
  spans_any ks e r = sym (spans_sort ks r s.range.start (beginning s)) ∙ ap (spans_from s s.range.start (beginning s)) e
