-- What the run answers from the state that the rules begin with is what the rules answer of the script. Assumes nothing.
use mathlib.Core.Path.{◌≡◌, sym, ap, ◌∙◌, subst}
use mathlib.Core.Bool.{Bool}
use mathlib.Core.List.{List}
use Prim.Native.Nat.{ℕ, ◌<◌}
use native.Mathlib.Omega.{arith}
use lib.ListN.{length, get_or, replicate}
use Rattle.base.specs.Lists.{All}
use Rattle.base.proofs.Lists.{zeros_at}
use Rattle.rules.specs.Script.{Look, look, looks, no_counts}
use Rattle.rules.specs.Moves.{marks, begin, slide_look, looks_by_moves}
use Rattle.rules.specs.Moves as moves
use Rattle.rules.proofs.Script.{begin_slid, slid_look, looks_by_moves_lem}
use Rattle.base.specs.declared.Slide.{Slide}
use Rattle.slide_mapper.specs.State.{flags_of, counts_of, slide_of}
use Rattle.slide_mapper.specs.declared.lists.MapperLists.{MapperLists}
use Rattle.script_work.specs.declared.asked.Query.{Query}
use Rattle.script_work.specs.declared.asked.Steps.{Steps}
use Rattle.script_work.specs.declared.looks.Looks.{Looks}
use Rattle.script_work.specs.Work.{asked, Outputs, Exact, Clear, Begun, look_of, looks_from, Start, Answered}

-- ---- lists of the work lists' sizes that were cleared whole

pub exact_clear : {m : ℕ} {cs ws ss cs' ws' ss' : List ℕ} (xs ys zs : List ℕ) → Exact m cs ws ss
    → cs' ≡ replicate (length xs) 0 → ws' ≡ replicate (length ys) 0 → ss' ≡ replicate (length zs) 0 → length xs ≡ length cs → length ys ≡ length ws → length zs ≡ length ss
    → Clear m cs' ws' ss'
exact_clear xs ys zs x a b c p q r = record {
  counts = a ∙ ap (λ (n : ℕ). replicate n 0) (p ∙ x.counts);
  words = b ∙ ap (λ (n : ℕ). replicate n 0) (q ∙ x.words);
  summary = c ∙ ap (λ (n : ℕ). replicate n 0) (r ∙ x.summary);
}

-- ---- from the state before the first step

module _ (q : Query) (s : Steps) (within : All (λ i. i < length q.coords.now) s.indexes.now) {cs ws ss : List ℕ} {at : Slide} (b : Begun q.hashes.now q.coords.now cs ws ss at) where
  no_count : (i : ℕ) → get_or (counts_of cs) i 0 ≡ 0
  unfolding slide_of begin no_counts
  no_count i = ap (λ (x : moves.Slide). get_or x.counts i 0) b.slide ∙ zeros_at (length q.coords.now) i

  first_look : look_of at ≡ look q.hashes.now q.coords.now (no_counts q.coords.now)
  unfolding slide_look slide_of begin
  first_look =
      let k = q.sound in
      ap slide_look b.slide ∙
      slid_look q.hashes.now q.coords.now k.query_asc k.coords_asc k.within k.some (begin q.hashes.now q.coords.now)
      (begin_slid q.hashes.now q.coords.now k.query_asc k.coords_asc k.within k.some)

  all_looks : looks_from (flags_of cs) s.indexes.now s.kinds.now (slide_of cs at) ≡ looks (asked q s)
  unfolding looks_from looks_by_moves
  all_looks =
      let k = q.sound in
      ap (λ (ms : List Bool). looks_from ms s.indexes.now s.kinds.now (slide_of cs at)) b.flags ∙
      ap (looks_from (marks q.hashes.now q.coords.now) s.indexes.now s.kinds.now) b.slide ∙
      looks_by_moves_lem (asked q s) k.query_asc k.coords_asc k.within k.some within

  pub run_answers : {l l' : Looks} {r : Slide} → Answered (look_of at) (looks_from (flags_of cs) s.indexes.now s.kinds.now (slide_of cs at)) l l' (look_of r)
      → Answered (look q.hashes.now q.coords.now (no_counts q.coords.now)) (looks (asked q s)) l l' (look_of r)
  run_answers {l} {l'} {r} done =
      subst (λ (x : Look). Answered x (looks (asked q s)) l l' (look_of r)) first_look
      (subst (λ (x : List Look). Answered (look_of at) x l l' (look_of r)) all_looks done)

pub start_run : (q : Query) (s : Steps) → All (λ i. i < length q.coords.now) s.indexes.now → {m : MapperLists} {at : Slide} {l : Looks}
    → Begun q.hashes.now q.coords.now m.counts.now m.words.now m.summary.now at → Outputs (length s.indexes.now) l → length m.counts.now ≡ length q.coords.now → Start s m l at
start_run q s within b o e = record {
  at_pivot = record { slid = b.ready.slid };
  few = λ i. omega (arith, no_count q s within b i);
  within = subst (λ (n : ℕ). All (λ i. i < n) s.indexes.now) (sym e) within;
  outputs = o;
}
