-- Scoring coordinate numbers is scoring hashes: both are the shared count through the one pivot that the flags and the counts have. Assumes nothing.
use mathlib.Core.Path.{◌≡◌, refl, sym, ap, ◌∙◌, subst}
use mathlib.Core.Logic.{⊎_elim, ◌≢◌}
use mathlib.Core.Bool.{Bool, true, false, ◌&&◌, ◌||◌, and-false}
use mathlib.Core.List.{List, [], ◌∷◌, ◌++◌, map}
use Prim.Native.Nat.{ℕ, ◌+◌, ◌-◌, ◌≤◌, ◌<◌}
use native.Mathlib.Omega.{arith}
use lib.Dec.{ltb, eqb}
use lib.ListN.{length, get_or, replicate, length-map, length-append, length-replicate, get_or-replicate, get_or-map, get_or-append, get_or-eq_default}
use lib.Seq.{get_or-append-add}
use borrow.Author.Tests.{eq-eqb, ne_eqb}
use Rattle.base.specs.Lists.{All, StrictAsc, times}
use Rattle.std.proofs.lemmas.Bool.{cases_lt, cases_eq}
use Rattle.base.proofs.Lists.{all_at, times_find}
use Rattle.rules.specs.Lists.{member, up_from}
use Rattle.rules.specs.Score.{number_of, score}
use Rattle.rules.specs.Script.{active}
use Rattle.rules.specs.Moves.{marks}
use Rattle.rules.specs.Ranks.{either, both, mark, has, size, PivotAt}
use Rattle.rules.proofs.Score.{cases, all_member, member-times, member-active, score_same, strict_same, number_fits, number_only}
use Rattle.rules.proofs.Slide.{score_is, pivot_some, length-ms}
use Rattle.sweep.specs.Active.{asked}
use Rattle.sweep.proofs.Upto.{up_length, up_at, strict_up, up_in, up_out}
use Rattle.sweep.proofs.Active.{all, strict_asked, member-asked, asked_in, marks-asked, counted_members}

-- no hash has another's number
member_number : (coords : List ℕ) → StrictAsc coords → (h : ℕ) → member h coords ≡ true → (hs : List ℕ) → All (λ x. member x coords ≡ true) hs
    → member (number_of coords h) (map (number_of coords) hs) ≡ member h hs
unfolding member
member_number coords rc h m [] a = refl
member_number coords rc h m (x ∷ xs) a =
    ap (λ (b : Bool). b || member (number_of coords h) (map (number_of coords) xs))
    (⊎_elim (λ (e : h ≡ x). eq-eqb (number_of coords h) (number_of coords x) (ap (number_of coords) e) ∙ sym (eq-eqb h x e))
    (λ (e : h ≢ x). ne_eqb (number_of coords h) (number_of coords x) (λ q. e (number_only coords rc h x m a.0 q)) ∙ sym (ne_eqb h x e)) (cases_eq h x)) ∙
    ap (λ (b : Bool). eqb h x || b) (member_number coords rc h m xs a.1)

pub all_numbers : (coords : List ℕ) → StrictAsc coords → (hs : List ℕ) → All (λ x. member x coords ≡ true) hs → All (λ i. i < length coords) (map (number_of coords) hs)
all_numbers coords rc [] a = tt
all_numbers coords rc (x ∷ xs) a = (number_fits coords rc x a.0, all_numbers coords rc xs a.1)

module _ (query coords hs : List ℕ) (rq : StrictAsc query) (rc : StrictAsc coords) (sub : (h : ℕ) → member h query ≡ true → member h coords ≡ true)
    (inside : All (λ h. member h coords ≡ true) hs) (some : 0 < length query) where
  abbrev ns : List ℕ
  ns = map (number_of coords) hs

  abbrev n : ℕ
  n = length coords

  tally : ℕ → ℕ
  tally j = times j ns

  counts : List ℕ
  counts = map tally (up_from 0 n)

  counts_len : length counts ≡ n
  unfolding counts
  counts_len = length-map (up_from 0 n) tally ∙ up_length 0 n

  -- past the coordinates there is none
  none_past : (j : ℕ) → n ≤ j → times j ns ≡ 0
  none_past j l =
      ⊎_elim (λ (h : 0 < times j ns). let f = times_find j ns h in absurd (omega (arith, f.2, all_at (λ i. i < n) ns (all_numbers coords rc hs inside) f.0 f.1))) (λ h. omega arith)
      (cases_lt 0 (times j ns))

  counts_at : (j : ℕ) → get_or counts j 0 ≡ times j ns
  unfolding counts tally
  counts_at j =
      ⊎_elim (λ (l : j < n).
      let e : get_or (up_from 0 n) j n ≡ j = omega (arith, up_at 0 n j n l) in
      ap (λ (d : ℕ). get_or counts j d) (sym (none_past n (omega arith))) ∙ get_or-map tally (up_from 0 n) j n ∙ ap tally e)
      (λ (l : n ≤ j). get_or-eq_default counts 0 (omega (arith, counts_len)) ∙ sym (none_past j l)) (cases_lt j n)

  hashes_active : (h : ℕ) → member h (active coords counts) ≡ member h hs
  hashes_active h =
      member-active h coords counts rc counts_len ∙
      ⊎_elim (λ (m : member h coords ≡ true).
      ap (λ (b : Bool). b && ltb 0 (get_or counts (number_of coords h) 0)) m ∙ ap (ltb 0) (counts_at (number_of coords h)) ∙ sym (member-times (number_of coords h) ns) ∙
      member_number coords rc h m hs inside)
      (λ (m : member h coords ≡ false).
      ap (λ (b : Bool). b && ltb 0 (get_or counts (number_of coords h) 0)) m ∙
      ⊎_elim (λ (i : member h hs ≡ true). sym m ∙ all_member (λ x. member x coords ≡ true) hs inside h i ∙ sym i) (λ (i : member h hs ≡ false). sym i) (cases (member h hs))) (cases (member h coords))

  abbrev ms : List Bool
  ms = marks query coords

  ms_len : length ms ≡ n
  ms_len = length-ms query coords counts rq rc sub counts_len

  pub score_numbers : score (asked ms) ns ≡ score query hs
  score_numbers =
      let t = pivot_some query coords counts rq rc sub counts_len some in
      let p = t.0 in
      let s = t.1 in
      let a = t.2 in
      let lens : length counts ≡ length (all ms) = counts_len ∙ sym ms_len ∙ sym (up_length 0 (length ms)) in
      let b : PivotAt (either (mark (marks (asked ms) (all ms))) (has counts)) (both (mark (marks (asked ms) (all ms))) (has counts)) (size (marks (asked ms) (all ms))) p s =
      subst (λ (fs : List Bool). PivotAt (either (mark fs) (has counts)) (both (mark fs) (has counts)) (size fs) p s) (sym (marks-asked ms)) a in
      sym (score_same (asked ms) (active (all ms) counts) ns (counted_members ms counts ns (counts_len ∙ sym ms_len) counts_at)) ∙
      score_is (asked ms) (all ms) counts (strict_asked ms) (strict_up (length ms)) (asked_in ms) lens p s b ∙
      sym (score_is query coords counts rq rc sub counts_len p s a) ∙ score_same query (active coords counts) hs hashes_active

-- words past the coordinates, whose flag is false, ask for nothing
pub asked_more : (ms : List Bool) (k : ℕ) → asked (ms ++ replicate k false) ≡ asked ms
asked_more ms k = strict_same (asked more) (asked ms) (strict_asked more) (strict_asked ms) same
  where
    more : List Bool
    more = ms ++ replicate k false

    long : length more ≡ length ms + k
    long = length-append ms (replicate k false) ∙ ap (λ (n : ℕ). length ms + n) (length-replicate k false)

    past : (h : ℕ) → length ms ≤ h → get_or more h false ≡ false
    past h l =
        let e : length ms + (h - length ms) ≡ h = omega arith in
        ap (λ (i : ℕ). get_or more i false) (sym e) ∙ get_or-append-add ms (replicate k false) (h - length ms) false ∙
        ⊎_elim (λ (i : h - length ms < k). get_or-replicate k (h - length ms) false false i)
        (λ (i : k ≤ h - length ms). get_or-eq_default (replicate k false) false (omega (arith, length-replicate k false))) (cases_lt (h - length ms) k)

    same : (h : ℕ) → member h (asked more) ≡ member h (asked ms)
    same h =
        member-asked more h ∙
        ⊎_elim (λ (l : h < length ms).
        ap (λ (b : Bool). b && member h (all more)) (get_or-append ms (replicate k false) false h l) ∙
        ap (λ (b : Bool). get_or ms h false && b) (up_in (length more) h (omega (arith, long)) ∙ sym (up_in (length ms) h l)))
        (λ (l : length ms ≤ h).
        ap (λ (b : Bool). b && member h (all more)) (past h l) ∙ sym (and-false (get_or ms h false)) ∙ ap (λ (b : Bool). get_or ms h false && b) (sym (up_out (length ms) h l))) (cases_lt h (length ms)) ∙
        sym (member-asked ms h)
