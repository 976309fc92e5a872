-- A step is the rules' move, and a run of steps answers after each what the rules' moves answer: what is done and what is left to do make the
-- whole, of a block of steps as of one, since both only go on with what was done. A count grows by one a step at most, so no count word overflows.
-- Assumes nothing.
use mathlib.Core.Path.{◌≡◌, refl, sym, ap, ◌∙◌, subst}
use mathlib.Core.Logic.{⊎_elim, ◌≢◌}
use mathlib.Core.Bool.{Bool, true, false, cond}
use mathlib.Core.List.{List, [], ◌∷◌, ◌++◌, append-nil}
use Prim.Native.Nat.{ℕ, ◌+◌, ◌-◌, ◌^◌, ◌≤◌, ◌<◌}
use native.Mathlib.Numerals.{add-one}
use native.Mathlib.Omega.{arith}
use lib.Dec.{eqb}
use lib.ListN.{length, get_or, set, drop, length-set, length-append, drop_of_length-le}
use lib.Seq.{get_or-set_same, get_or-set_other, drop-cons, append_snoc}
use Rattle.base.specs.Lists.{All}
use Rattle.base.specs.Pick.{pick}
use Rattle.base.proofs.Lists.{all_at}
use Rattle.std.proofs.lemmas.Bool.{cases_eq}
use Rattle.base.proofs.Buffers.{pushed}
use Rattle.rules.specs.Script.{Look, stepped, last_or}
use Rattle.rules.specs.Moves.{insert_ref, delete_ref, moved, moved_by, slide_look}
use Rattle.rules.specs.Moves as moves
use Rattle.rules.proofs.Moves.{moved-counts}
use Rattle.base.specs.declared.Slide.{Slide}
use Rattle.slide_mapper.specs.declared.lists.MapperLists.{MapperLists}
use Rattle.slide_mapper.specs.State.{flags_of, counts_of, slide_of}
use Rattle.slide_mapper.specs.Lent.{AtPivot, Entered, Left}
use Rattle.slide_mapper.proofs.State.{counts_at, counts_length, flags_length, flags_set, ready_inserted, ready_deleted}
use Rattle.slide_mapper.proofs.Lent.{ready_in, inserted_in, deleted_in, entered_length, left_length}
use Rattle.base.specs.declared.Kind.TheVariants.{Delete, Insert}
use Rattle.script_work.specs.declared.asked.Steps.{Steps}
use Rattle.script_work.specs.declared.looks.Looks.{Looks}
use Rattle.base.specs.Kinds.{kind_of, kind_number}
use Rattle.script_work.specs.Looks.{SameLooks, Put}
use Rattle.script_work.specs.Work.{Stepped, look_of, looks_from, Underway, Answered, Reached, Further}

-- ---- one step

moved_insert : (ms : List Bool) (i : ℕ) (s : moves.Slide) → moved ms 1 i s ≡ insert_ref ms i s
unfolding moved pick
moved_insert ms i s = refl

moved_delete : (ms : List Bool) (i : ℕ) (s : moves.Slide) → moved ms 0 i s ≡ delete_ref ms i s
unfolding moved pick
moved_delete ms i s = refl

-- a number moves as its kind does
moved_kind : (ms : List Bool) (k i : ℕ) (s : moves.Slide) → moved ms (kind_number (kind_of k)) i s ≡ moved ms k i s
unfolding moved pick
moved_kind ms k i s =
    elim (eqb k 1) as (λ (t : Bool). pick (eqb (kind_number (cond t Insert Delete)) 1) (insert_ref ms i s) (delete_ref ms i s) ≡ pick t (insert_ref ms i s) (delete_ref ms i s))
    [ true ↦ refl | false ↦ refl ]

module _ {m : MapperLists} {at : Slide} {i : ℕ} {n : MapperLists} {r : Slide} (p : AtPivot m at) (l : i < length m.counts.now) where
  pub stepped_insert : Entered m at i n r → Stepped m at Insert i n r
  stepped_insert e = record {
    at_pivot = record { slid = (ready_inserted (ready_in p) l (inserted_in e)).slid };
    size = entered_length e;
    flags = ap flags_of e.counts ∙ flags_set m.counts.now i (get_or m.counts.now i 0 + 2) (omega arith);
    slide = e.slide ∙ sym (moved_insert (flags_of m.counts.now) i (slide_of m.counts.now at));
  }

  pub stepped_delete : Left m at i n r → Stepped m at Delete i n r
  stepped_delete e = record {
    at_pivot = record { slid = (ready_deleted (ready_in p) l (deleted_in e)).slid };
    size = left_length e;
    flags = e.flags;
    slide = e.slide ∙ sym (moved_delete (flags_of m.counts.now) i (slide_of m.counts.now at));
  }

-- a count grows by one at most
counted : (kind i : ℕ) (ns : List ℕ) (m j : ℕ) → i < length ns → ((l : ℕ) → get_or ns l 0 ≤ m) → get_or (stepped kind i ns) j 0 ≤ m + 1
unfolding stepped pick
counted kind i ns m j h le = ⊎_elim here (λ (n : j ≢ i). rw (get_or-set_other ns i j v 0 n) (omega (arith, le j))) (cases_eq j i)
  where
    v : ℕ
    v = pick (eqb kind 1) (get_or ns i 0 + 1) (get_or ns i 0 - 1)

    small : (t : Bool) → pick t (get_or ns i 0 + 1) (get_or ns i 0 - 1) ≤ m + 1
    small true = omega (arith, le i)
    small false = omega (arith, le i)

    here : j ≡ i → get_or (set ns i v) j 0 ≤ m + 1
    here e = rw (e, get_or-set_same ns i v 0 h) (small (eqb kind 1))

-- ---- the answers

last_snoc : (d y : Look) (xs : List Look) → last_or d (xs ++ (y ∷ [])) ≡ y
unfolding last_or
last_snoc d y [] = refl
last_snoc d y (x ∷ xs) = last_snoc x y xs

looks_next : (ms : List Bool) (is ks : List ℕ) (j : ℕ) (s : moves.Slide) → j < length is → j < length ks
    → looks_from ms (drop j is) (drop j ks) s
    ≡ slide_look (moved ms (get_or ks j 0) (get_or is j 0) s) ∷ looks_from ms (drop (j + 1) is) (drop (j + 1) ks) (moved ms (get_or ks j 0) (get_or is j 0) s)
unfolding looks_from moved_by
looks_next ms is ks j s l m = rw (drop-cons is j 0, drop-cons ks j 0, add-one)

looks_none : (ms : List Bool) (is ks : List ℕ) (j : ℕ) (s : moves.Slide) → length is ≤ j → looks_from ms (drop j is) (drop j ks) s ≡ []
unfolding looks_from moved_by
looks_none ms is ks j s l = rw (drop_of_length-le is l)

-- ---- the next step

module _ {s : Steps} {m : MapperLists} {l : Looks} {at : Slide} {j : ℕ} (u : Underway s m l at j) (h : j < length s.indexes.now) where
  pub next_kind : j < length s.kinds.now
  next_kind = omega (arith, s.parallel)

  -- any step is within the coordinates, and any count has room
  pub next_in : (k : ℕ) → k < length s.indexes.now → get_or s.indexes.now k 0 < length m.counts.now
  next_in k g = all_at (λ i. i < length m.counts.now) s.indexes.now u.within k g

  pub next_fits : (i : ℕ) → get_or m.counts.now i 0 + 2 < 2 ^ 32
  next_fits i = omega (arith, u.few i, counts_at m.counts.now i, s.few)

  module _ {m' : MapperLists} {l' : Looks} {at' : Slide} (d : Stepped m at (kind_of (get_or s.kinds.now j 0)) (get_or s.indexes.now j 0) m' at') (p : Put l j at' l') where
    kind : ℕ
    kind = get_or s.kinds.now j 0

    i : ℕ
    i = get_or s.indexes.now j 0

    slid : slide_of m'.counts.now at' ≡ moved (flags_of m.counts.now) (get_or s.kinds.now j 0) (get_or s.indexes.now j 0) (slide_of m.counts.now at)
    slid = d.slide ∙ moved_kind (flags_of m.counts.now) _ _ _

    next_underway : Underway s m' l' at' (j + 1)
    unfolding slide_of kind i
    next_underway =
        let counts : counts_of m'.counts.now ≡ stepped kind i (counts_of m.counts.now) =
        ap (λ (x : moves.Slide). x.counts) slid ∙ moved-counts (flags_of m.counts.now) (slide_of m.counts.now at) u.at_pivot.slid i (omega (arith, next_in j h, flags_length m.counts.now)) kind in
        record {
          at_pivot = d.at_pivot;
          few = λ k. rw counts (counted kind i (counts_of m.counts.now) j k (omega (arith, next_in j h, counts_length m.counts.now)) u.few);
          within = subst (λ (n : ℕ). All (λ i. i < n) s.indexes.now) (sym d.size) u.within;
          outputs = record {
            pivots = omega (arith, u.outputs.pivots, length-set l.pivots.now j at'.pivot.0, ap length p.pivots);
            shareds = omega (arith, u.outputs.shareds, length-set l.shareds.now j at'.shared, ap length p.shareds);
          };
        }

    next_reached : (ms : List Bool) (start : Look) (answers : List Look) (first : Looks) → Reached ms s start answers first m l at j
        → Reached ms s start answers first m' l' at' (j + 1)
    unfolding slide_look slide_of
    next_reached ms start answers first t =
        let now = slide_of m.counts.now at in
        let y = look_of at' in
        let is = s.indexes.now in
        let ks = s.kinds.now in
        let next : slide_of m'.counts.now at' ≡ moved ms (get_or ks j 0) (get_or is j 0) now = slid ∙ ap (λ (x : List Bool). moved x (get_or ks j 0) (get_or is j 0) now) t.flags in
        record {
          done = t.done ++ (y ∷ []);
          many = omega (arith, length-append t.done (y ∷ []), t.many);
          flags = d.flags ∙ t.flags;
          rest =
              append_snoc t.done y (looks_from ms (drop (j + 1) is) (drop (j + 1) ks) (slide_of m'.counts.now at')) ∙
              ap (λ (x : moves.Slide). t.done ++ slide_look x ∷ looks_from ms (drop (j + 1) is) (drop (j + 1) ks) x) next ∙
              ap (λ (x : List Look). t.done ++ x) (sym (looks_next ms is ks j now h next_kind)) ∙ t.rest;
          answered = record {
            pivots = p.pivots ∙ pushed (λ (x : Look). x.pivot) t.done y first.pivots.now l.pivots.now j t.answered.pivots t.many (omega (arith, u.outputs.pivots));
            shareds = p.shareds ∙ pushed (λ (x : Look). x.shared) t.done y first.shareds.now l.shareds.now j t.answered.shareds t.many (omega (arith, u.outputs.shareds));
            last = sym (last_snoc start y t.done);
          };
        }

-- ---- a run: no step, one more, and as many more as a block has

pub record Running (s : Steps) (m₀ : MapperLists) (l₀ : Looks) (at₀ : Slide) (from end : ℕ) (m : MapperLists) (l : Looks) (at : Slide) (j : ℕ) : Type 0 where
  pub upto : j ≤ end
  pub same : SameLooks l₀ l
  pub further : Further s m₀ l₀ at₀ from m l at j

pub running_start : {s : Steps} {m : MapperLists} {l : Looks} {at : Slide} {from end : ℕ} → Underway s m l at from → from ≤ end
    → Running s m l at from end m l at from
running_start u h = record {
  upto = h;
  same = record { pivots = refl; shareds = refl };
  further = record { underway = u; reached = λ ms start answers first t. t };
}

module _ {s : Steps} {m₀ : MapperLists} {l₀ : Looks} {at₀ : Slide} {from end : ℕ} {m : MapperLists} {l : Looks} {at : Slide} {j : ℕ}
    (r : Running s m₀ l₀ at₀ from end m l at j) where
  pub running_block : {m' : MapperLists} {l' : Looks} {at' : Slide} {k : ℕ} → k ≤ end → Further s m l at j m' l' at' k
      → SameLooks l l' → Running s m₀ l₀ at₀ from end m' l' at' k
  running_block h f e = record {
    upto = h;
    same = record { pivots = e.pivots ∙ r.same.pivots; shareds = e.shareds ∙ r.same.shareds };
    further = record { underway = f.underway; reached = λ ms start answers first x. f.reached ms start answers first (r.further.reached ms start answers first x) };
  }

  pub running_step : j < end → end ≤ length s.indexes.now → {m' : MapperLists} {l' : Looks} {at' : Slide}
      → Stepped m at (kind_of (get_or s.kinds.now j 0)) (get_or s.indexes.now j 0) m' at' → SameLooks l l' → Put l j at' l'
      → Running s m₀ l₀ at₀ from end m' l' at' (j + 1)
  running_step h g {m'} {l'} {at'} d e p =
      let u = r.further.underway in
      let n : j < length s.indexes.now = omega arith in
      running_block (omega arith) (record { underway = next_underway u n d p; reached = next_reached u n d p }) e

  -- all of them
  pub running_all : end ≤ j → Further s m₀ l₀ at₀ from m l at end
  running_all h =
      let e : j ≡ end = omega (arith, r.upto) in
      subst (λ (k : ℕ). Further s m₀ l₀ at₀ from m l at k) e r.further

-- a run from the first step to the last
pub further_whole : {s : Steps} {m₀ m : MapperLists} {l₀ l : Looks} {at₀ at : Slide} → Further s m₀ l₀ at₀ 0 m l at (length s.indexes.now)
    → Answered (look_of at₀) (looks_from (flags_of m₀.counts.now) s.indexes.now s.kinds.now (slide_of m₀.counts.now at₀)) l₀ l (look_of at)
unfolding last_or
further_whole {s} {m₀} {m} {l₀} {l} {at₀} {at} f =
    let is = s.indexes.now in
    let ms = flags_of m₀.counts.now in
    let whole = looks_from ms is s.kinds.now (slide_of m₀.counts.now at₀) in
    let t : Reached ms s (look_of at₀) whole l₀ m l at (length is) =
    f.reached ms (look_of at₀) whole l₀ (record { done = []; many = refl; flags = refl; rest = refl; answered = record { pivots = refl; shareds = refl; last = refl } }) in
    let all : t.done ≡ whole =
    sym (append-nil t.done) ∙ ap (λ (x : List Look). t.done ++ x) (sym (looks_none ms is s.kinds.now (length is) (slide_of m.counts.now at) (omega arith))) ∙ t.rest in
    subst (λ (x : List Look). Answered (look_of at₀) x l₀ l (look_of at)) all t.answered
