-- The query marked in clear count words, a hash at a time, and the state before the first step: its flags are the query's, no count stands,
-- and its pivot is the one that the rules begin with, since both are the union's k-th smallest. Assumes nothing.
use mathlib.Core.Path.{◌≡◌, refl, sym, ap, ◌∙◌, subst}
use mathlib.Core.Logic.{⊎_elim, ◌≢◌}
use mathlib.Core.Bool.{Bool, true, or-true, or-false}
use mathlib.Core.List.{List, [], ◌∷◌, ◌++◌}
use Prim.Native.Nat.{ℕ, ◌+◌, ◌≤◌, ◌<◌}
use native.Mathlib.Numerals.{add-one}
use native.Mathlib.Omega.{arith}
use lib.ListN.{length, get_or, set, take, replicate, length-set, length-replicate}
use lib.Seq.{get_or-set_same, get_or-set_other, get_or-take, ext_get_or, take-suc, take_all}
use borrow.Author.Tests.{eq-eqb, ne_eqb}
use Rattle.base.specs.Pick.{pick}
use Rattle.base.specs.Lists.{StrictAsc}
use Rattle.base.proofs.Lists.{map_at}
use Rattle.std.proofs.lemmas.Bool.{cases_eq}
use Rattle.rules.specs.Lists.{member}
use Rattle.rules.specs.Score.{number_of}
use Rattle.rules.specs.Checks.{ceil64}
use Rattle.rules.specs.Script.{no_counts}
use Rattle.rules.specs.Moves.{marks, begin}
use Rattle.rules.specs.Moves as moves
use Rattle.rules.specs.Ranks.{either, both, mark, has, size, PivotAt}
use Rattle.rules.proofs.Score.{member-append, get_or-member, at_number, number_fits, number_at}
use Rattle.rules.proofs.Ranks.{pivot_only}
use Rattle.rules.proofs.Script.{begin_slid}
use Rattle.summary_bits.proofs.Words.{clear_bits}
use Rattle.summary_bits.proofs.Kept.{clear_summary}
use Rattle.base.specs.declared.Slide.{Slide}
use Rattle.slide_mapper.specs.State.{flags_of, counts_of, slide_of, Blank, Ready}
use Rattle.slide_mapper.proofs.Marked.{ones_flags, ones_counts, ones-length, ones_low, ones-size}
use Rattle.script_work.specs.Sound.{Sound, Placed}
use Rattle.script_work.specs.Work.{Clear, marked, Begun}

marked_none : (coords : List ℕ) → replicate (length coords) 0 ≡ marked [] coords
unfolding marked member pick
marked_none [] = refl
marked_none (c ∷ cs) = ap (λ (l : List ℕ). 0 ∷ l) (marked_none cs)

-- ---- one hash more

module _ (query coords : List ℕ) (asc : StrictAsc coords) (h : ℕ) (in_coords : member h coords ≡ true) where
  more : List ℕ
  more = query ++ (h ∷ [])

  more_same : member h more ≡ true
  unfolding more member
  more_same = member-append h query (h ∷ []) ∙ rw (eq-eqb h h refl) (or-true (member h query))

  more_other : (x : ℕ) → x ≢ h → member x more ≡ member x query
  unfolding more member
  more_other x n = member-append x query (h ∷ []) ∙ rw (ne_eqb x h n) (or-false (member x query))

  at_here : get_or (marked more coords) (number_of coords h) 0 ≡ 1
  unfolding marked pick
  at_here =
      map_at (λ (c : ℕ). pick (member c more) 1 0) coords (number_of coords h) 0 0 (number_fits coords asc h in_coords) ∙
      ap (λ (x : ℕ). pick {A = ℕ} (member x more) 1 0) (at_number coords asc h in_coords) ∙ ap (λ (b : Bool). pick {A = ℕ} b 1 0) more_same

  at_other : (i : ℕ) → i < length coords → i ≢ number_of coords h → get_or (marked more coords) i 0 ≡ get_or (marked query coords) i 0
  unfolding marked
  at_other i l n =
      let x = get_or coords i 0 in
      let other : x ≢ h = λ e. n (sym (number_at coords asc i l) ∙ ap (number_of coords) e) in
      map_at (λ (c : ℕ). pick (member c more) 1 0) coords i 0 0 l ∙ ap (λ (b : Bool). pick {A = ℕ} b 1 0) (more_other x other) ∙
      sym (map_at (λ (c : ℕ). pick (member c query) 1 0) coords i 0 0 l)

  marked_more : set (marked query coords) (number_of coords h) 1 ≡ marked (query ++ (h ∷ [])) coords
  unfolding more marked
  marked_more =
      let old = marked query coords in
      let n = number_of coords h in
      let long : length (set old n 1) ≡ length coords = length-set old n 1 ∙ ones-length query coords in
      ext_get_or 0 (set old n 1) (marked more coords) (long ∙ sym (ones-length more coords))
      (λ i l.
      ⊎_elim
      (λ (e : i ≡ n).
      subst (λ (k : ℕ). get_or (set old n 1) k 0 ≡ get_or (marked more coords) k 0) (sym e)
      (get_or-set_same old n 1 0 (omega (arith, number_fits coords asc h in_coords, ones-length query coords)) ∙ sym at_here))
      (λ (d : i ≢ n). get_or-set_other old n i 1 0 d ∙ sym (at_other i (omega (arith, long)) d)) (cases_eq i n))

-- ---- the loop, at the hash i

pub place_at : {query coords places : List ℕ} {i : ℕ} → Placed query coords places (length query) → i < length query → get_or (take (length query) places) i 0 ≡ number_of coords (get_or query i 0)
place_at {query} {coords} {places} {i} p l = get_or-take (length query) places i 0 l ∙ p.at i l

pub record Marking (query coords cs : List ℕ) (i : ℕ) : Type 0 where
  pub upto : i ≤ length query
  pub long : length cs ≡ length coords
  pub is : cs ≡ marked (take i query) coords

pub marking_start : (query coords cs : List ℕ) → cs ≡ replicate (length coords) 0 → Marking query coords cs 0
marking_start query coords cs e = record { upto = omega arith; long = ap length e ∙ length-replicate (length coords) 0; is = e ∙ marked_none coords }

module _ {query coords cs : List ℕ} {i : ℕ} (s : Sound query coords) (m : Marking query coords cs i) where
  module _ (l : i < length query) (at : ℕ) (number : at ≡ number_of coords (get_or query i 0)) where
    in_coords : member (get_or query i 0) coords ≡ true
    in_coords = s.within (get_or query i 0) (get_or-member query i l)

    pub marking_in : at < length cs
    marking_in = omega (arith, number, number_fits coords s.coords_asc (get_or query i 0) in_coords, m.long)

    pub marking_step : Marking query coords (set cs at 1) (i + 1)
    marking_step = record {
      upto = omega arith;
      long = length-set cs at 1 ∙ m.long;
      is =
          ap (λ (k : ℕ). set cs k 1) number ∙ ap (λ (x : List ℕ). set x (number_of coords (get_or query i 0)) 1) m.is ∙
          marked_more (take i query) coords s.coords_asc (get_or query i 0) in_coords ∙ ap (λ (x : List ℕ). marked x coords) (sym (rw add-one (take-suc query i 0 l)));
    }

  pub marking_end : length query ≤ i → cs ≡ marked query coords
  marking_end l = m.is ∙ ap (λ (x : List ℕ). marked x coords) (take_all i query l)

-- ---- the state before the first step

pub begin_blank : {query coords cs ws ss cs₀ : List ℕ} → Sound query coords → Clear (length coords) cs₀ ws ss → cs ≡ marked query coords → Blank cs ws ss
unfolding marked
begin_blank {query} {coords} {cs} {ws} {ss} s c e =
    let long : length cs ≡ length coords = ap length e ∙ ones-length query coords in
    let wide : length ws ≡ ceil64 (length coords) = ap length c.words ∙ length-replicate (ceil64 (length coords)) 0 in
    let high : length ss ≡ ceil64 (ceil64 (length coords)) = ap length c.summary ∙ length-replicate (ceil64 (ceil64 (length coords))) 0 in
    let many : size (flags_of cs) ≡ length query =
    ap (λ (x : List ℕ). size (flags_of x)) e ∙ ones-size query coords s.query_asc s.coords_asc s.within in
    record {
      small = omega (arith, long, s.few);
      room = omega (arith, long, wide);
      fits = record { room = omega (arith, wide, high); small = omega (arith, wide, s.few) };
      flags = λ j. rw e (ones_low query coords j);
      some = omega (arith, many, s.some);
      words = clear_bits (ceil64 (length coords)) c.words;
      summary = clear_summary (ceil64 (length coords)) (ceil64 (ceil64 (length coords))) c.words c.summary;
    }

same_slide : (s t : moves.Slide) → s.counts ≡ t.counts → s.pivot ≡ t.pivot → s.shared ≡ t.shared → s ≡ t
same_slide s t p q r i = record { counts = p i; pivot = q i; shared = r i }

pub begin_begun : {query coords cs ws ss : List ℕ} {at : Slide} → Sound query coords → cs ≡ marked query coords → at.shared ≡ 0 → Ready cs ws ss at → Begun query coords cs ws ss at
unfolding begin slide_of marked
begin_begun {query} {coords} {cs} {ws} {ss} {at} s e z k =
    let ms = marks query coords in
    let flags : flags_of cs ≡ ms = ap flags_of e ∙ ones_flags query coords in
    let counts : counts_of cs ≡ no_counts coords = ap counts_of e ∙ ones_counts query coords in
    let ours : PivotAt (either (mark ms) (has (no_counts coords))) (both (mark ms) (has (no_counts coords))) (size ms) at.pivot.0 at.shared =
    subst (λ (x : List ℕ). PivotAt (either (mark ms) (has x)) (both (mark ms) (has x)) (size ms) at.pivot.0 at.shared) counts
    (subst (λ (fs : List Bool). PivotAt (either (mark fs) (has (counts_of cs))) (both (mark fs) (has (counts_of cs))) (size fs) at.pivot.0 at.shared) flags k.slid.at) in
    let theirs = (begin_slid query coords s.query_asc s.coords_asc s.within s.some).at in
    record {
      ready = k;
      flags = flags;
      slide = same_slide (slide_of cs at) (begin query coords) counts (pivot_only _ _ _ _ _ _ _ ours theirs) z;
    }
