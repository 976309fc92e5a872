-- Before the first item: in count words that are 1 at the query's coordinates and 0 elsewhere the flags are the query's and no count stands, so the mapper may begin, and
-- begins with no active item. Assumes nothing.
use mathlib.Core.Path.{◌≡◌, refl, sym, ap, ◌∙◌, subst}
use mathlib.Core.Bool.{Bool, false}
use mathlib.Core.List.{List, [], ◌∷◌, ◌++◌, map, map-append}
use Prim.Native.Nat.{ℕ, zero, suc, ◌+◌, ◌-◌, ◌%◌, ◌≤◌}
use native.Mathlib.Omega.{arith}
use lib.Dec.{eqb}
use lib.ListN.{length, get_or, drop, replicate, length-map, length-append, length-replicate, get_or-append}
use lib.Seq.{drop-append_seam}
use Rattle.base.specs.Pick.{pick}
use Rattle.base.specs.Lists.{times}
use Rattle.base.specs.Buffers.{over}
use Rattle.base.proofs.Checks.{pick-le}
use Rattle.base.proofs.Counting.{count_below, count_up}
use Rattle.base.proofs.Lists.{zeros_at}
use Rattle.rules.specs.Lists.{member}
use Rattle.rules.specs.Checks.{ceil64}
use Rattle.rules.specs.Score.{union, number_of}
use Rattle.rules.specs.Moves.{marks}
use Rattle.rules.specs.Ranks.{mark, size}
use Rattle.rules.proofs.Score.{strict_union, union_left, length_union}
use Rattle.rules.proofs.Slide.{size_query}
use Rattle.summary_bits.proofs.Words.{clear_bits}
use Rattle.summary_bits.proofs.Kept.{clear_summary}
use Rattle.base.specs.declared.Slide.{Slide}
use Rattle.slide_mapper.specs.State.{flags_of, Blank, Ready}
use Rattle.slide_mapper.proofs.State.{counts_at}
use Rattle.slide_mapper.proofs.Marked.{ones_flags}
use Rattle.coordinates.specs.Coordinates.{flags, numbers, Asked, Answered}
use Rattle.sweep.specs.Active.{asked}
use Rattle.sweep.specs.Beginning.{Exact, Clear, Given, Begins}
use Rattle.sweep.specs.declared.Begun.{Begun}
use Rattle.sweep.proofs.Numbers.{asked_more}

-- ---- the work lists

module _ {m : ℕ} {hs cs is ws ss : List ℕ} where
  pub clear_exact : Clear m hs cs is ws ss → Exact m hs cs is ws ss
  clear_exact c = record {
    hashes = ap length c.hashes ∙ length-replicate m 0;
    counts = ap length c.counts ∙ length-replicate m 0;
    coords = ap length c.coords ∙ length-replicate m 0;
    words = ap length c.words ∙ length-replicate (ceil64 m) 0;
    summary = ap length c.summary ∙ length-replicate (ceil64 (ceil64 m)) 0;
  }

  module _ (x : Exact m hs cs is ws ss) {hs' cs' is' ws' ss' : List ℕ} where
    pub exact_kept : length hs' ≡ length hs → length cs' ≡ length cs → length is' ≡ length is → length ws' ≡ length ws → length ss' ≡ length ss → Exact m hs' cs' is' ws' ss'
    exact_kept a b c d e = record { hashes = a ∙ x.hashes; counts = b ∙ x.counts; coords = c ∙ x.coords; words = d ∙ x.words; summary = e ∙ x.summary }

    -- lists that were cleared whole
    pub exact_clear : hs' ≡ replicate (length hs) 0 → cs' ≡ replicate (length cs) 0 → is' ≡ replicate (length is) 0 → ws' ≡ replicate (length ws) 0 → ss' ≡ replicate (length ss) 0
        → Clear m hs' cs' is' ws' ss'
    exact_clear a b c d e = record {
      hashes = a ∙ ap (λ (n : ℕ). replicate n 0) x.hashes;
      counts = b ∙ ap (λ (n : ℕ). replicate n 0) x.counts;
      coords = c ∙ ap (λ (n : ℕ). replicate n 0) x.coords;
      words = d ∙ ap (λ (n : ℕ). replicate n 0) x.words;
      summary = e ∙ ap (λ (n : ℕ). replicate n 0) x.summary;
    }

-- what is left behind the first n of m zeros
drop_zeros : (n m : ℕ) → drop n (replicate {A = ℕ} m 0) ≡ replicate (m - n) 0
drop_zeros zero m = let e : m ≡ m - 0 = omega arith in ap (λ (k : ℕ). replicate {A = ℕ} k 0) e
drop_zeros (suc n) zero = let e : 0 ≡ 0 - suc n = omega arith in ap (λ (k : ℕ). replicate {A = ℕ} k 0) e
drop_zeros (suc n) (suc m) = let e : m - n ≡ suc m - suc n = omega arith in drop_zeros n m ∙ ap (λ (k : ℕ). replicate {A = ℕ} k 0) e

-- ---- how marked count words read, with k clear ones behind

module _ (query : List ℕ) (k : ℕ) where
  abbrev marked : List ℕ → List ℕ
  marked coords = flags query coords ++ replicate k 0

  rest_flags : (n : ℕ) → flags_of (replicate n 0) ≡ replicate n false
  unfolding flags_of
  rest_flags zero = refl
  rest_flags (suc n) = ap (λ (fs : List Bool). false ∷ fs) (rest_flags n)

  marked_flags : (coords : List ℕ) → flags_of (marked coords) ≡ marks query coords ++ replicate k false
  unfolding flags_of flags
  marked_flags coords =
      map-append (λ (w : ℕ). eqb (w % 2) 1) (flags query coords) (replicate k 0) ∙ ap (λ (fs : List Bool). fs ++ flags_of (replicate k 0)) (ones_flags query coords) ∙
      ap (λ (fs : List Bool). marks query coords ++ fs) (rest_flags k)

  marked_low : (coords : List ℕ) (i : ℕ) → get_or (marked coords) i 0 ≤ 1
  unfolding flags
  marked_low [] i = omega (arith, zeros_at k i)
  marked_low (c ∷ cs) zero = pick-le (member c query)
  marked_low (c ∷ cs) (suc i) = marked_low cs i

-- flags behind the query's add to its size at most
size_more : (ms : List Bool) (k : ℕ) → size ms ≤ size (ms ++ replicate k false)
unfolding size mark
size_more ms k =
    let more = ms ++ replicate k false in
    let long : length more ≡ length ms + k = length-append ms (replicate k false) ∙ ap (λ (n : ℕ). length ms + n) (length-replicate k false) in
    omega (
      arith,
      count_up (mark more) (length ms) (length more) (omega arith),
      count_below (mark ms) (mark more) (length ms) (λ j l. ap (λ (b : Bool). pick {A = ℕ} b 1 0) (get_or-append ms (replicate k false) false j l)),
    )

-- ---- from the coordinates

module _ {query hashes hs₀ cs₀ is₀ ws ss : List ℕ} (g : Given query hashes) (z : Clear (length query + length hashes) hs₀ cs₀ is₀ ws ss) where
  abbrev all : List ℕ
  all = union query hashes

  pub coords_asked : Asked query hashes hs₀ cs₀ is₀
  coords_asked =
      let x = clear_exact z in
      record { lent = record { few = g.few; key_room = x.hashes; coord_room = x.coords }; blank = z.counts }

  module _ {cs is : List ℕ} {n : ℕ} (a : Answered query hashes cs₀ cs is n) where
    abbrev m : ℕ
    m = length query + length hashes

    pub coords_few : n ≤ 65536
    coords_few = omega (arith, a.numbered.many, length_union query hashes, g.few)

    words_are : cs ≡ flags query all ++ replicate (m - length (flags query all)) 0
    words_are = a.marks ∙ ap (λ (xs : List ℕ). over (flags query all) xs) z.counts ∙ ap (λ (xs : List ℕ). flags query all ++ xs) (drop_zeros (length (flags query all)) m)

    abbrev k : ℕ
    k = m - length (flags query all)

    flags_are : flags_of cs ≡ marks query all ++ replicate k false
    flags_are = ap flags_of words_are ∙ marked_flags query k all

    low : (i : ℕ) → get_or cs i 0 ≤ 1
    low i = rw words_are (marked_low query k all i)

    many : length query ≤ size (flags_of cs)
    many =
        rw flags_are
        (omega (arith, size_more (marks query all) k, size_query query all all g.query_asc (strict_union query hashes) (λ h i. union_left h query hashes i) refl))

    module _ (long : length cs ≡ length cs₀) where
      pub begin_blank : Blank cs ws ss
      begin_blank =
          let x = clear_exact z in
          record {
            small = omega (arith, long, x.counts, g.few);
            room = omega (arith, long, x.counts, x.words);
            fits = record { room = omega (arith, x.words, x.summary); small = omega (arith, x.words, g.few) };
            flags = low;
            some = omega (arith, many, g.some);
            words = clear_bits (ceil64 m) z.words;
            summary = clear_summary (ceil64 m) (ceil64 (ceil64 m)) z.words z.summary;
          }

    item_numbers : drop (length query) is ≡ map (number_of all) hashes
    unfolding numbers
    item_numbers =
        ap (drop (length query)) (a.numbered.are ∙ map-append (number_of all) query hashes) ∙
        ap (λ (i : ℕ). drop i (map (number_of all) query ++ map (number_of all) hashes)) (sym (length-map query (number_of all))) ∙
        drop-append_seam (map (number_of all) query) (map (number_of all) hashes)

    pub begins : {ws' ss' : List ℕ} {at : Slide} → Ready cs ws' ss' at → (r : Begun) → r.coords ≡ n → r.at ≡ at → Begins query hashes cs is ws' ss' r
    unfolding times
    begins {ws'} {ss'} {at} ready r e f = record {
      many = e ∙ a.numbered.many;
      numbers = item_numbers;
      flags = ap asked flags_are ∙ asked_more (marks query all) k;
      active = record {
        ready = subst (λ (x : Slide). Ready cs ws' ss' x) (sym f) ready;
        counts = λ j. omega (arith, counts_at cs j, low j);
      };
    }
