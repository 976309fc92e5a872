-- Demand 3 for the interval sweep: each span of the sweep by steps is a run of the positions in it, all of one score. For while the keys are handled one by
-- one in their order, a coordinate's count and the inserts left make up what stays to the end and the deletes left: no delete meets a count of 0, for the
-- interval that it ends was on, and between two positions of events the count is the number of intervals on there.
-- Assumes nothing.
use Prim.Native.Nat.{ℕ, zero, suc, ◌+◌, ◌-◌, ◌≤◌, ◌<◌}
use native.Mathlib.Omega.{arith}
use mathlib.Core.Path.{◌≡◌, refl, sym, ap, subst, ◌∙◌}
use mathlib.Core.Logic.{⊎_elim}
use mathlib.Core.Bool.{Bool, true, false, not, and-false}
use mathlib.Core.List.{List, [], ◌∷◌, ◌++◌, map, append-nil}
use lib.ListN.{length, get_or}
use lib.Dec.{eqb}
use borrow.Author.Tests.{eqb-true, eqb-false, lt-ltb, le-ltb}
use Rattle.base.specs.Pick.{pick}
use Rattle.base.specs.Lists.{All, Asc, StrictAsc}
use Rattle.base.proofs.Lists.{all_map}
use Rattle.std.proofs.lemmas.Bool.{cases_lt}
use Rattle.rules.specs.Lists.{member, count, filter, up_from}
use Rattle.rules.specs.Score.{score}
use Rattle.rules.specs.Script.{stepped, active}
use Rattle.rules.specs.Sweep.{Sweep, Scored}
use Rattle.rules.specs.Interval.{taken, coords_of, hashes_of, event_at, event_kind, event_coord, events, span, spans_from, covers, scored_position}
use Rattle.rules.proofs.Score.{cases, strict_union, score_same}
use Rattle.rules.proofs.Sweep.{scored, Run, Runs, none, join, run_up}
use Rattle.rules.proofs.IntervalEach.{Each}
use Rattle.rules.proofs.IntervalEvents.{Good, Key, on, stays, inserts, deletes, later, later_skip, later_all, later_most, last_key, at_mono, past_last, to_last, event_balance, event_cover}
use Rattle.rules.proofs.IntervalActive.{active_on, length-stepped, stepped_same, stepped_other}

-- the sweep after the keys up to `last`: the rest of the keys, and the counts
pub record Swept (s : Sweep) (last : ℕ) (counts rest : List ℕ) : Type 0 where
  pub order : Asc (last ∷ rest)
  pub keys : All (Key s (coords_of s)) rest
  pub gone : (t : ℕ → Bool) (place : ℕ) → last ≤ place → count (later place t) (events s) ≡ count (later place t) rest
  pub sized : length counts ≡ length (coords_of s)
  pub kept : (c : ℕ) → c < length (coords_of s) → get_or counts c 0 + count (inserts c) rest ≡ count (stays s (coords_of s) c) (taken s) + count (deletes c) rest

-- after a delete, every insert left lies strictly beyond it
insert_beyond : (c k x : ℕ) → eqb (event_kind k) 1 ≡ false → k ≤ x → inserts c x ≡ later k (inserts c) x
unfolding later inserts
insert_beyond c k x e l =
    ⊎_elim (λ (m : k < x). rw (lt-ltb k x m))
    (λ (m : x ≤ k).
    let same : x ≡ k = omega arith in
    rw (le-ltb k x m, same, e)) (cases_lt k x)

inserts_beyond : (c k : ℕ) (ks : List ℕ) → eqb (event_kind k) 1 ≡ false → All (λ x. k ≤ x) ks → count (inserts c) ks ≡ count (later k (inserts c)) ks
unfolding count
inserts_beyond c k [] e a = refl
inserts_beyond c k (x ∷ ks) e a = rw (insert_beyond c k x e a.0, inserts_beyond c k ks e a.1)

-- a stretch of numbers, cut at b
up_split : (f : ℕ → Scored) (a b e : ℕ) → a ≤ b → b ≤ e → map f (up_from a (b - a)) ++ map f (up_from b (e - b)) ≡ map f (up_from a (e - a))
unfolding up_from
up_split f a b e l m = go (b - a) a (omega arith)
  where
    go : (n x : ℕ) → x + n ≡ b → map f (up_from x n) ++ map f (up_from b (e - b)) ≡ map f (up_from x (e - x))
    go zero x h =
        let same : x ≡ b = omega arith in
        rw same
    go (suc n) x h =
        let size : e - x ≡ suc (e - (x + 1)) = omega arith in
        rw size (ap (λ (zs : List Scored). f x ∷ zs) (go n (x + 1) (omega arith)))

pub strict_coords : (s : Sweep) → StrictAsc (coords_of s)
unfolding coords_of
strict_coords s = strict_union s.query (hashes_of (taken s))

module _ (s : Sweep) (small : length (coords_of s) ≤ 65536) (good : Each (Good s (coords_of s)) (taken s)) where
  module _ (last k : ℕ) (counts ks : List ℕ) (w : Swept s last counts (k ∷ ks)) where
    -- a delete finds its interval on
    delete_on : (c : ℕ) → eqb (event_kind k) 1 ≡ false → count (inserts c) ks ≤ count (stays s (coords_of s) c) (taken s) + count (deletes c) ks
    delete_on c e =
        let i = inserts_beyond c k ks e w.order.1.0 in
        let gi = w.gone (inserts c) k w.order.0.0 ∙ later_skip k (inserts c) k ks (omega arith) in
        let gd = w.gone (deletes c) k w.order.0.0 ∙ later_skip k (deletes c) k ks (omega arith) in
        omega (arith, i, gi, gd, event_balance s small good c k, later_most k (deletes c) ks)

    kept_step : (c : ℕ) → c < length (coords_of s) → get_or (stepped (event_kind k) (event_coord k) counts) c 0 + count (inserts c) ks ≡ count (stays s (coords_of s) c) (taken s) + count (deletes c) ks
    unfolding count inserts deletes pick
    kept_step c l =
        let before = w.kept c l in
        ⊎_elim (λ (e : eqb (event_coord k) c ≡ true).
        let same : event_coord k ≡ c = eqb-true (event_coord k) c e in
        let now : get_or (stepped (event_kind k) (event_coord k) counts) c 0 ≡ pick (eqb (event_kind k) 1) (get_or counts c 0 + 1) (get_or counts c 0 - 1) = rw (← same) (stepped_same (event_kind k) (event_coord k) counts (omega (arith, w.sized))) in
        ⊎_elim (λ (f : eqb (event_kind k) 1 ≡ true). omega (arith, rw (e, f) at before, rw f at now))
        (λ (f : eqb (event_kind k) 1 ≡ false). omega (arith, rw (e, f) at before, rw f at now, delete_on c f)) (cases (eqb (event_kind k) 1)))
        (λ (e : eqb (event_coord k) c ≡ false).
        omega (arith, rw (e, and-false (eqb (event_kind k) 1), and-false (not (eqb (event_kind k) 1))) at before, stepped_other (event_kind k) (event_coord k) counts c (λ q. eqb-false (event_coord k) c e (sym q)))) (cases (eqb (event_coord k) c))

    swept_step : Swept s k (stepped (event_kind k) (event_coord k) counts) ks
    swept_step = record {
      order = w.order.1;
      keys = w.keys.1;
      gone = λ t place l. w.gone t place (omega (arith, w.order.0.0)) ∙ later_skip place t k ks l;
      sized = length-stepped (event_kind k) (event_coord k) counts ∙ w.sized;
      kept = kept_step;
    }

  module _ (members : Each (λ i. member i.hash (coords_of s) ≡ true) (taken s)) where
    -- no key is left at p or before: the score of the counts is the score at p
    span_score : (last : ℕ) (counts rest : List ℕ) → Swept s last counts rest → (p : ℕ) → event_at last ≤ p → s.range.start ≤ p → p ≤ s.range.end → All (λ k. p < event_at k) rest → score s.query (active (coords_of s) counts) ≡ score s.query (hashes_of (filter (covers p) (taken s)))
    span_score last counts rest w p h lo hi a =
        let beyond : All (λ k. last_key p < k) rest = all_map (λ k. p < event_at k) (λ k. last_key p < k) (λ k l. past_last p k l) rest a in
        let same : (c : ℕ) → c < length (coords_of s) → get_or counts c 0 ≡ count (on (coords_of s) p c) (taken s) = λ c l.
        omega (arith, w.kept c l, event_cover s small good c p lo hi, w.gone (inserts c) (last_key p) (to_last p last h), w.gone (deletes c) (last_key p) (to_last p last h), later_all (last_key p) (inserts c) rest beyond, later_all (last_key p) (deletes c) rest beyond) in
        score_same s.query (active (coords_of s) counts) (hashes_of (filter (covers p) (taken s))) (λ h. active_on (coords_of s) (strict_coords s) p h (taken s) members counts w.sized same)

    -- the positions from `from` to `to`, before the next key's, are a run
    span_run : (last from to next : ℕ) (counts rest : List ℕ) → Swept s last counts rest → event_at last ≡ from → s.range.start ≤ from → to ≤ s.range.end → from ≤ to → next ≡ to + 1 → All (λ k. to < event_at k) rest → Run (span s counts from to).score from to (map (scored_position s) (up_from from (next - from)))
    unfolding span scored_position
    span_run last from to next counts rest w at lo hi l e a =
        let size : next - from ≡ suc (to - from) = omega arith in
        let end : from + (to - from) ≡ to = omega arith in
        rw size
        (subst (λ (x : ℕ). Run (span s counts from to).score from x (map (scored_position s) (up_from from (suc (to - from))))) end
        (run_up (scored_position s) (λ q. q) (span s counts from to).score (to - from) from
        (λ q m n. ap (λ (v : ℕ). scored v q q) (sym (span_score last counts rest w q (omega arith) (omega arith) (omega arith) (all_map (λ k. to < event_at k) (λ k. q < event_at k) (λ k o. omega arith) rest a))))))

    -- the spans from `from` on are runs of the positions from there
    pub spans_runs : (rest : List ℕ) (last from : ℕ) (counts : List ℕ) → Swept s last counts rest → event_at last ≡ from → s.range.start ≤ from → from ≤ s.range.end → Runs (spans_from s from counts rest) (map (scored_position s) (up_from from (s.range.end + 1 - from)))
    unfolding spans_from span pick
    spans_runs [] last from counts w at lo hi =
        subst (λ (zs : List Scored). Runs (span s counts from s.range.end ∷ []) zs) (append-nil (map (scored_position s) (up_from from (s.range.end + 1 - from))))
        (join (span s counts from s.range.end) (span_run last from s.range.end (s.range.end + 1) counts [] w at lo (omega arith) hi refl tt) none)
    spans_runs (k ∷ ks) last from counts w at lo hi =
        let next : Runs (spans_from s (event_at k) (stepped (event_kind k) (event_coord k) counts) ks) (map (scored_position s) (up_from (event_at k) (s.range.end + 1 - event_at k))) =
        spans_runs ks k (event_at k) (stepped (event_kind k) (event_coord k) counts) (swept_step last k counts ks w) refl (omega (arith, w.keys.0.after)) w.keys.0.within in
        ⊎_elim (λ (e : eqb (event_at k) from ≡ true).
        rw e
        (subst (λ (x : ℕ). Runs (spans_from s (event_at k) (stepped (event_kind k) (event_coord k) counts) ks) (map (scored_position s) (up_from x (s.range.end + 1 - x)))) (eqb-true (event_at k) from e)
        next))
        (λ (e : eqb (event_at k) from ≡ false).
        let past : from < event_at k = omega (arith, at_mono last k w.order.0.0, eqb-false (event_at k) from e) in
        rw e
        (subst (λ (zs : List Scored). Runs (span s counts from (event_at k - 1) ∷ spans_from s (event_at k) (stepped (event_kind k) (event_coord k) counts) ks) zs)
        (up_split (scored_position s) from (event_at k) (s.range.end + 1) (omega arith) (omega (arith, w.keys.0.within)))
        (join (span s counts from (event_at k - 1))
        (span_run last from (event_at k - 1) (event_at k) counts (k ∷ ks) w at lo (omega (arith, w.keys.0.within)) (omega arith) (omega arith)
        (omega arith, all_map (λ x. k ≤ x) (λ x. event_at k - 1 < event_at x) (λ x l. omega (arith, at_mono k x l)) ks w.order.1.0)) next))) (cases (eqb (event_at k) from))
