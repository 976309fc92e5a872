-- Where the count words count the active numbers, the shared count is the score of query and active numbers, since the pivot is the union's k-th smallest;
-- and a move makes them count one number more or one less. Assumes nothing.
use mathlib.Core.Path.{◌≡◌, sym, ap, ◌∙◌, subst}
use mathlib.Core.Logic.{⊎_elim, ◌≢◌}
use mathlib.Core.Bool.{Bool, true, false, ◌&&◌, and-true, and-false}
use mathlib.Core.List.{List, [], ◌∷◌, map}
use Prim.Native.Nat.{ℕ, ◌+◌, ◌-◌, ◌/◌, ◌≤◌, ◌<◌}
use native.Mathlib.Omega.{arith}
use lib.Dec.{ltb}
use lib.ListN.{length, get_or, set, length-map, get_or-map, get_or-eq_default}
use lib.Seq.{ext_get_or, get_or-set_same, get_or-set_other}
use Rattle.base.specs.Lists.{StrictAsc, hit, times}
use Rattle.std.proofs.lemmas.Bool.{cases_lt, cases_eq}
use Rattle.base.proofs.Lists.{hit_same, hit_other, hit-le}
use Rattle.rules.specs.Lists.{member, up_from}
use Rattle.rules.specs.Score.{number_of, score}
use Rattle.rules.specs.Script.{active}
use Rattle.rules.specs.Moves.{marks}
use Rattle.rules.specs.Ranks.{either, both, mark, has, size, PivotAt}
use Rattle.rules.proofs.Score.{cases, member_filter, member-times, strict_filter, member-active, score_same}
use Rattle.rules.proofs.Slide.{score_is}
use Rattle.base.specs.declared.Slide.{Slide}
use Rattle.slide_mapper.specs.State.{flags_of, counts_of, slide_of, Inserted, Deleted}
use Rattle.slide_mapper.proofs.State.{counts_at, counts_length, counts_set, flags_length, flags_set, ready_inserted, ready_deleted}
use Rattle.sweep.specs.Active.{asked, Active}
use Rattle.sweep.proofs.Upto.{up_length, up_at, strict_up, up_in, up_out, up_number}

-- ---- the query as numbers

module _ (ms : List Bool) where
  abbrev pub all : List ℕ
  all = up_from 0 (length ms)

  abbrev on : ℕ → Bool
  on i = get_or ms i false

  pub strict_asked : StrictAsc (asked ms)
  unfolding asked
  strict_asked = strict_filter on all (strict_up (length ms))

  pub member-asked : (h : ℕ) → member h (asked ms) ≡ (on h && member h all)
  unfolding asked
  member-asked h = member_filter on h all

  pub asked_in : (h : ℕ) → member h (asked ms) ≡ true → member h all ≡ true
  asked_in h m =
      ⊎_elim (λ (e : member h all ≡ true). e)
      (λ (e : member h all ≡ false). let z : false ≡ true = sym (and-false (on h)) ∙ ap (λ (b : Bool). on h && b) (sym e) ∙ sym (member-asked h) ∙ m in e ∙ z)
      (cases (member h all))

  -- their marks among all numbers are the flags
  pub marks-asked : marks (asked ms) all ≡ ms
  unfolding marks
  marks-asked = ext_get_or false (map flag all) ms (length-map all flag ∙ up_length 0 (length ms)) at
    where
      flag : ℕ → Bool
      flag c = member c (asked ms)

      past : flag (length ms) ≡ false
      past = member-asked (length ms) ∙ ap (λ (b : Bool). on (length ms) && b) (up_out (length ms) (length ms) (omega arith)) ∙ and-false (on (length ms))

      at : (i : ℕ) → i < length (map flag all) → get_or (map flag all) i false ≡ get_or ms i false
      at i l =
          let h : i < length ms = omega (arith, length-map all flag, up_length 0 (length ms)) in
          let e : get_or all i (length ms) ≡ i = omega (arith, up_at 0 (length ms) i (length ms) h) in
          ap (λ (b : Bool). get_or (map flag all) i b) (sym past) ∙ get_or-map flag all i (length ms) ∙ ap flag e ∙ member-asked i ∙
          ap (λ (b : Bool). on i && b) (up_in (length ms) i h) ∙ and-true (on i)

-- a number is active exactly where it is counted
pub counted_members : (ms : List Bool) (counts ns : List ℕ) → length counts ≡ length ms → ((j : ℕ) → get_or counts j 0 ≡ times j ns) → (h : ℕ) → member h (active (all ms) counts) ≡ member h ns
counted_members ms counts ns same k h =
    let n = length ms in
    member-active h (all ms) counts (strict_up n) (same ∙ sym (up_length 0 n)) ∙
    ⊎_elim (λ (l : h < n).
    ap (λ (b : Bool). b && ltb 0 (get_or counts (number_of (all ms) h) 0)) (up_in n h l) ∙
    ap (λ (i : ℕ). ltb 0 (get_or counts i 0)) (up_number n h l) ∙ ap (ltb 0) (k h))
    (λ (l : n ≤ h).
    let z : times h ns ≡ 0 = sym (k h) ∙ get_or-eq_default counts 0 (omega arith) in
    ap (λ (b : Bool). b && ltb 0 (get_or counts (number_of (all ms) h) 0)) (up_out n h l) ∙ ap (ltb 0) (sym z)) (cases_lt h n) ∙
    sym (member-times h ns)

-- ---- the shared count is the score

module _ {cs ws ss : List ℕ} {at : Slide} {ns : List ℕ} (k : Active cs ws ss at ns) where
  abbrev flags : List Bool
  flags = flags_of cs

  abbrev n : ℕ
  n = length flags

  ranked : let ms = marks (asked flags) (all flags) in PivotAt (either (mark ms) (has (counts_of cs))) (both (mark ms) (has (counts_of cs))) (size ms) at.pivot.0 at.shared
  unfolding slide_of
  ranked =
      subst (λ (ms : List Bool). PivotAt (either (mark ms) (has (counts_of cs))) (both (mark ms) (has (counts_of cs))) (size ms) at.pivot.0 at.shared) (sym (marks-asked flags))
      k.ready.slid.at

  lens : length (counts_of cs) ≡ length (all flags)
  lens = counts_length cs ∙ sym (flags_length cs) ∙ sym (up_length 0 n)

  pub active_score : at.shared ≡ score (asked flags) ns
  active_score =
      sym (score_is (asked flags) (all flags) (counts_of cs) (strict_asked flags) (strict_up n) (asked_in flags) lens at.pivot.0 at.shared ranked) ∙
      score_same (asked flags) (active (all flags) (counts_of cs)) ns
      (counted_members flags (counts_of cs) ns (counts_length cs ∙ sym (flags_length cs)) k.counts)

-- ---- one item more, one less

times-le : (v : ℕ) (xs : List ℕ) → times v xs ≤ length xs
unfolding times
times-le v [] = omega arith
times-le v (x ∷ xs) = omega (arith, times-le v xs, hit-le v x)

-- one count set, all others as they were
counted : (cs ds ns ms : List ℕ) (i v : ℕ) → counts_of ds ≡ set (counts_of cs) i v → i < length cs → ((j : ℕ) → get_or (counts_of cs) j 0 ≡ times j ns) → v ≡ times i ms
    → ((j : ℕ) → j ≢ i → times j ms ≡ times j ns) → (j : ℕ) → get_or (counts_of ds) j 0 ≡ times j ms
counted cs ds ns ms i v e l k here else j =
    ap (λ (xs : List ℕ). get_or xs j 0) e ∙
    ⊎_elim (λ (q : j ≡ i). ap (λ (x : ℕ). get_or (set (counts_of cs) i v) x 0) q ∙ get_or-set_same (counts_of cs) i v 0 (omega (arith, counts_length cs)) ∙ here ∙ ap (λ (x : ℕ). times x ms) (sym q))
    (λ (q : j ≢ i). get_or-set_other (counts_of cs) i j v 0 q ∙ k j ∙ sym (else j q)) (cases_eq j i)

module _ {cs ws ss : List ℕ} {at : Slide} {ns : List ℕ} (k : Active cs ws ss at ns) {i : ℕ} (l : i < length cs) where
  -- the count word has room for one more
  pub active_room : (limit : ℕ) → length ns ≤ limit → get_or cs i 0 + 2 < limit + limit + 4
  active_room limit h = omega (arith, k.counts i, counts_at cs i, times-le i ns)

  module _ {cs' ws' ss' : List ℕ} {r : Slide} (more : List ℕ) where
    pub active_more : ((j : ℕ) → times j more ≡ times j ns + hit j i) → Inserted cs ws ss at i cs' ws' ss' r → Active cs' ws' ss' r more
    active_more t m = record {
      ready = ready_inserted k.ready l m;
      counts =
          counted cs cs' ns more i ((get_or cs i 0 + 2) / 2) (ap counts_of m.counts ∙ counts_set cs i (get_or cs i 0 + 2)) l k.counts (omega (arith, t i, hit_same i, k.counts i, counts_at cs i))
          (λ j n. omega (arith, t j, hit_other j i n));
    }

    pub active_less : ((j : ℕ) → times j ns ≡ hit j i + times j more) → Deleted cs ws ss at i cs' ws' ss' r → Active cs' ws' ss' r more
    active_less t m = record {
      ready = ready_deleted k.ready l m;
      counts =
          counted cs cs' ns more i (get_or (counts_of cs) i 0 - 1) m.counts l k.counts (omega (arith, t i, hit_same i, k.counts i))
          (λ j n. omega (arith, t j, hit_other j i n));
    }

-- what the query is stays
pub inserted_flags : {cs ws ss : List ℕ} {at : Slide} {i : ℕ} {cs' ws' ss' : List ℕ} {r : Slide} → Inserted cs ws ss at i cs' ws' ss' r → flags_of cs' ≡ flags_of cs
inserted_flags {cs} {i = i} m = ap flags_of m.counts ∙ flags_set cs i (get_or cs i 0 + 2) (omega arith)
