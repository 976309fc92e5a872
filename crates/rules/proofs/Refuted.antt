-- Wrong programs that no promise allows. Each is refuted at a row of the table: there the promise's answer, or a lent buffer, is a value
-- that computes, and the wrong program's is another.
use Prim.Native.Nat.{ℕ, suc, ◌<◌}
use mathlib.Core.Path.{◌≡◌, refl, sym, ap, ◌∙◌}
use mathlib.Core.Bool.{Bool, true, false}
use mathlib.Core.List.{List, [], ◌∷◌}
use native.Mathlib.Omega.{arith}
use lib.Ieee.{Float}
use lib.ListN.{length, take, drop, get_or, replicate}
use Rattle.base.specs.Buffers.{over}
use Rattle.base.specs.Verdicts.{Fine}
use Rattle.base.specs.declared.Refusal.{Refusal}
use Rattle.base.specs.declared.Place.{Place}
use Rattle.base.specs.declared.Stats.{Stats}
use Rattle.base.specs.Answers.{SweepAnswer, nothing, placed, listed}
use Rattle.base.specs.Answers.{ScriptAnswer}
use Rattle.base.specs.Answers.{FinderAnswer}
use Rattle.base.proofs.Buffers.{zeroed_in}
use Rattle.rules.specs.Checks.{ceil64}
use Rattle.rules.specs.Refusals.{work_left}
use Rattle.rules.specs.Sweep.{Sweep}
use Rattle.rules.specs.Finder.{Finder}
use Rattle.rules.specs.Text.{text}
use Rattle.rules.specs.Lines.{line, refused_line, said}
use Rattle.rules.specs.Told.{Told, told_refused, told_done, told_sweep}
use Rattle.rules.specs.Calls.{SweepLent, SweepLeft, MinimizerPromise, IntervalPromise, ScriptLent, ScriptPromise, FinderLent, MinimizerFinderPromise, IntervalFinderPromise, RunPromise}
use Rattle.rules.specs.Computes.{computes}
use Rattle.rules.specs.Examples.{script_a, case_b, case_d, finder_of, job_b2}
use Rattle.rules.specs.Edges.{sweep_with}
use Rattle.rules.specs.JobEdges.{job_to, job_with}
use Rattle.std.specs.Prelude.{Err}

-- how many values an answer tells, and the value at i
abbrev pub size : Told → ℕ
size t = length t.values

abbrev pub value : ℕ → Told → ℕ
value i t = get_or t.values i 0

-- a sweep's work buffers full of ones, of exactly its need n where that is 1 to 64
abbrev pub ones : ℕ → SweepLent
ones n = record { hashes = replicate n 1; counts = replicate n 1; coords = replicate n 1; words = 1 ∷ []; summary = 1 ∷ [] }

-- such buffers of B1 and B2; of D, enough for E; of script A; and of n hits
abbrev pub ones_b : SweepLent
ones_b = ones 7

abbrev pub ones_d : SweepLent
ones_d = ones 5

abbrev pub ones_a : ScriptLent
ones_a = record { counts = replicate 5 1; words = 1 ∷ []; summary = 1 ∷ []; pivots = replicate 10 9; shareds = replicate 10 9 }

abbrev pub ones_hits : FinderLent
ones_hits = record { keys = replicate 3 1; contigs = replicate 3 9; starts = replicate 3 9; ends = replicate 3 9 }

-- a row of intervals as the interval sweep's call asks for it, which has no window: with another table and minimum identity, and with its own
abbrev pub asked_with : Sweep → (identities uppers : List Float) → Float → Sweep
asked_with s = sweep_with s.settings.kmer 0 s.settings.length s.query s.hashes s.starts s.ends s.range.start s.range.end

abbrev pub asked : Sweep → Sweep
asked s = asked_with s s.identities s.uppers s.minimum

-- rows H and K, K as the interval finder's call asks for it, which has no length
abbrev pub row_h : Finder
row_h = finder_of (5 ∷ 8 ∷ 15 ∷ []) []

abbrev pub row_k : Finder
row_k =
    let f = finder_of (2 ∷ 4 ∷ 6 ∷ []) (6 ∷ 8 ∷ 9 ∷ []) in
    record { contigs = f.contigs; starts = f.starts; ends = f.ends; groups = f.groups; threshold = f.threshold; minimum = f.minimum; length = 0 }

-- Either sweep, where it is to tell t. A place tells seven values: no refusal does,
pub sweep_refuses : (x : Refusal) {t : Told} → told_sweep (Err x) ≡ t → size t ≡ 7 → ⊥
unfolding told_sweep told_refused
sweep_refuses x says seven = omega (arith, ap size says)

-- and no none
pub sweep_says_none : (s : Stats) {t : Told} → told_sweep (nothing s) ≡ t → size t ≡ 7 → ⊥
unfolding told_sweep told_done
sweep_says_none s says seven = omega (arith, ap size says)

-- a place tells one start, whatever its counts
pub sweep_one_place : (x : Place) (s u : Stats) {t t₂ : Told} → told_sweep (placed x s) ≡ t → told_sweep (placed x u) ≡ t₂ → value 0 t ≡ value 0 t₂
unfolding told_sweep told_done
sweep_one_place x s u says says₂ = sym (ap (value 0) says) ∙ ap (value 0) says₂

-- and its counts are told last
pub sweep_counts : (x : Place) (s : Stats) {t : Told} → told_sweep (placed x s) ≡ t → (s.windows ≡ value 4 t) × (s.coords ≡ value 5 t) × (s.items ≡ value 6 t)
unfolding told_sweep told_done
sweep_counts x s says = (ap (value 4) says, ap (value 5) says, ap (value 6) says)

-- a work buffer with a 1 at its front, where its need is not 0, is not left as it was
pub work_unzeroed : (n : ℕ) (before : List ℕ) {after : List ℕ} → after ≡ work_left Fine n before → 0 < n → get_or before 0 0 ≡ 1 → after ≡ before → ⊥
unfolding work_left
work_unzeroed n before left needed one kept = omega (arith, zeroed_in n before 0 needed, ap (λ xs. get_or xs 0 0) (sym left ∙ kept))

-- one of a sweep's five left as it was, whichever it is
pub data Unzeroed (before after : SweepLent) : Type 0 where
  hashes_kept : after.hashes ≡ before.hashes → Unzeroed before after
  counts_kept : after.counts ≡ before.counts → Unzeroed before after
  coords_kept : after.coords ≡ before.coords → Unzeroed before after
  words_kept : after.words ≡ before.words → Unzeroed before after
  summary_kept : after.summary ≡ before.summary → Unzeroed before after

pub sweep_unzeroed : (n : ℕ) {after : SweepLent} → SweepLeft Fine (suc n) (ones (suc n)) after → Unzeroed (ones (suc n)) after → ⊥
sweep_unzeroed n left (hashes_kept kept) = work_unzeroed (suc n) _ left.hashes (omega arith) refl kept
sweep_unzeroed n left (counts_kept kept) = work_unzeroed (suc n) _ left.counts (omega arith) refl kept
sweep_unzeroed n left (coords_kept kept) = work_unzeroed (suc n) _ left.coords (omega arith) refl kept
sweep_unzeroed n left (words_kept kept) = work_unzeroed (ceil64 (suc n)) _ left.words (omega arith) refl kept
sweep_unzeroed n left (summary_kept kept) = work_unzeroed (ceil64 (ceil64 (suc n))) _ left.summary (omega arith) refl kept

-- The minimizer sweep: one that refuses all,
pub minimizer_refuses_all : (x : Refusal) (after : SweepLent) → MinimizerPromise (case_b 11) (Err x) ones_b after → ⊥
unfolding computes
minimizer_refuses_all x after p = sweep_refuses x p.answer refl

-- one that says none always,
pub minimizer_none_always : (s : Stats) (after : SweepLent) → MinimizerPromise (case_b 11) (nothing s) ones_b after → ⊥
unfolding computes
minimizer_none_always s after p = sweep_says_none s p.answer refl

-- one that gives one fixed place,
pub minimizer_one_place : (x : Place) (s u : Stats) (a b : SweepLent) → MinimizerPromise (case_b 10) (placed x s) ones_b a → MinimizerPromise (case_b 11) (placed x u) ones_b b → ⊥
unfolding computes
minimizer_one_place x s u a b p q = let e : ◌≡◌ {A = ℕ} 0 8 = sweep_one_place x s u p.answer q.answer in omega (arith, e)

-- one that does nothing to its work,
pub minimizer_does_nothing : (r : SweepAnswer) → MinimizerPromise (case_b 11) r ones_b ones_b → ⊥
unfolding computes
minimizer_does_nothing r p = sweep_unzeroed 6 p.left (hashes_kept refl)

-- made-up windows, coordinates or items
pub minimizer_made_up : (x : Place) (s : Stats) (after : SweepLent) → MinimizerPromise (case_b 11) (placed x s) ones_b after → (s.windows ≡ 5) × (s.coords ≡ 4) × (s.items ≡ 5)
unfolding computes
minimizer_made_up x s after p = sweep_counts x s p.answer

-- The interval sweep: one that refuses all,
pub interval_refuses_all : (x : Refusal) (after : SweepLent) (keys : List ℕ) → IntervalPromise (asked case_d) (Err x) ones_d after (replicate 6 1) keys → ⊥
unfolding computes
interval_refuses_all x after keys p = sweep_refuses x p.answer refl

-- one that says none always,
pub interval_none_always : (s : Stats) (after : SweepLent) (keys : List ℕ) → IntervalPromise (asked case_d) (nothing s) ones_d after (replicate 6 1) keys → ⊥
unfolding computes
interval_none_always s after keys p = sweep_says_none s p.answer refl

-- one that does nothing to its work,
pub interval_does_nothing : (r : SweepAnswer) → IntervalPromise (asked case_d) r ones_d ones_d (replicate 6 1) (replicate 6 1) → ⊥
unfolding computes
interval_does_nothing r p = sweep_unzeroed 4 p.left (hashes_kept refl)

-- made-up windows, coordinates or items
pub interval_made_up : (x : Place) (s : Stats) (after : SweepLent) (keys : List ℕ) → IntervalPromise (asked case_d) (placed x s) ones_d after (replicate 6 1) keys → (s.windows ≡ 9) × (s.coords ≡ 3) × (s.items ≡ 3)
unfolding computes
interval_made_up x s after keys p = sweep_counts x s p.answer

-- The script: one that refuses all,
pub script_refuses_all : (x : Refusal) (after : ScriptLent) → ScriptPromise script_a (Err x) ones_a after → ⊥
unfolding computes
script_refuses_all x after p = let e : ◌≡◌ {A = ℕ} 0 2 = ap size p.answer in omega (arith, e)

-- one that does nothing to its outputs,
pub script_does_nothing : (r : ScriptAnswer) → ScriptPromise script_a r ones_a ones_a → ⊥
unfolding computes
script_does_nothing r p = let e : ◌≡◌ {A = ℕ} 9 3 = ap (λ xs. get_or xs 0 0) p.left.pivots in omega (arith, e)

-- one that moves only at its first step and repeats that answer
pub script_repeats_first : (r : ScriptAnswer) (after : ScriptLent) → after.pivots ≡ replicate 10 3 → ScriptPromise script_a r ones_a after → ⊥
unfolding computes
script_repeats_first r after same p =
    let e : ◌≡◌ {A = ℕ} 3 1 = ap (λ xs. get_or xs 1 0) (sym same ∙ p.left.pivots) in omega (arith, e)

-- The finders: one that refuses all,
pub finder_refuses_all : (x : Refusal) (after : FinderLent) → MinimizerFinderPromise row_h (Err x) ones_hits after → ⊥
unfolding computes
finder_refuses_all x after p = let e : ◌≡◌ {A = ℕ} 0 2 = ap size p.answer in omega (arith, e)

-- one that lists nothing,
pub finder_lists_nothing : (hits : ℕ) (after : FinderLent) → MinimizerFinderPromise row_h (listed 0 hits) ones_hits after → ⊥
unfolding computes
finder_lists_nothing hits after p = let e : ◌≡◌ {A = ℕ} 0 2 = ap (value 0) p.answer in omega (arith, e)

pub interval_finder_lists_nothing : (hits : ℕ) (after : FinderLent) (end_keys : List ℕ) → IntervalFinderPromise row_k (listed 0 hits) ones_hits after (replicate 3 1) end_keys → ⊥
unfolding computes
interval_finder_lists_nothing hits after end_keys p = let e : ◌≡◌ {A = ℕ} 0 1 = ap (value 0) p.answer in omega (arith, e)

-- one that does nothing to its candidate lists
pub finder_does_nothing : (r : FinderAnswer) → MinimizerFinderPromise row_h r ones_hits ones_hits → ⊥
unfolding computes
finder_does_nothing r p = let e : ◌≡◌ {A = ℕ} 9 0 = ap (λ xs. get_or xs 0 0) p.left.contigs in omega (arith, e)

-- The program: one that refuses, or says none of, every job
pub run_refuses_all : (r : ℕ) (out out' : List ℕ) → take 7 out' ≡ text "refused" → RunPromise false job_b2 r out out' → ⊥
unfolding computes
run_refuses_all r out out' begins p =
    let e : ◌≡◌ {A = ℕ} 114 109 = ap (λ xs. get_or xs 0 0) (sym begins ∙ ap (take 7) p.written) in omega (arith, e)

pub run_none_always : (r : ℕ) (out out' : List ℕ) → take 4 out' ≡ text "none" → RunPromise false job_b2 r out out' → ⊥
unfolding computes
run_none_always r out out' begins p =
    let e : ◌≡◌ {A = ℕ} 110 109 = ap (λ xs. get_or xs 0 0) (sym begins ∙ ap (take 4) p.written) in omega (arith, e)

-- one whose place begins alike for B2's job and for the same with range end 10 (`mapped 8` and `mapped 0`),
pub run_one_place : (r s : ℕ) (out a b : List ℕ) → take 8 a ≡ take 8 b → RunPromise false job_b2 r out a → RunPromise false (job_with 27 10) s out b → ⊥
unfolding computes
run_one_place r s out a b alike p q =
    let e : ◌≡◌ {A = ℕ} 56 48 = ap (λ xs. get_or xs 7 0) (sym (ap (take 8) p.written) ∙ alike ∙ ap (take 8) q.written) in omega (arith, e)

-- one that says none of what is refused: of a job whose 06 was not read, of one that the library refuses, of one after which reading failed,
none_is_no_refusal : (failed : Bool) (job : List ℕ) (n p r : ℕ) (out out' : List ℕ) → said failed job ≡ refused_line n p → take 4 out' ≡ text "none" → RunPromise failed job r out out' → ⊥
unfolding refused_line line text
none_is_no_refusal failed job n p r out out' refused begins promise =
    let e : ◌≡◌ {A = ℕ} 110 114 = ap (λ xs. get_or xs 0 0) (sym begins ∙ ap (take 4) (promise.written ∙ ap (λ lines. over lines out) refused)) in
    omega (arith, e)

pub run_none_unread : (r : ℕ) (out out' : List ℕ) → take 4 out' ≡ text "none" → RunPromise false (job_to 50 (drop 113 job_b2)) r out out' → ⊥
unfolding computes
run_none_unread r out out' = none_is_no_refusal false _ 14 50 r out out' refl

pub run_none_refused : (r : ℕ) (out out' : List ℕ) → take 4 out' ≡ text "none" → RunPromise false (job_with 42 20) r out out' → ⊥
unfolding computes
run_none_refused r out out' = none_is_no_refusal false _ 4 1 r out out' refl

pub run_none_failed : (r : ℕ) (out out' : List ℕ) → take 4 out' ≡ text "none" → RunPromise true job_b2 r out out' → ⊥
unfolding computes
run_none_failed r out out' = none_is_no_refusal true _ 12 167 r out out' refl

-- one that prints `none` and a new line, and no counts, of a contig with no items
pub run_drops_counts : (out out' : List ℕ) → RunPromise false (job_to 50 (0x06 ∷ 0x00 ∷ 0x00 ∷ drop 113 job_b2)) 5 out out' → ⊥
unfolding computes
run_drops_counts out out' p = let e : ◌≡◌ {A = ℕ} 5 18 = p.count in omega (arith, e)
