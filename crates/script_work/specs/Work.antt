-- What the parts of the work promise each other, over work lists of exactly the needed sizes.
use Rattle.std.specs.Prelude.{◌≡◌, Bool, List, ◌++◌, map, ℕ, ◌≤◌, ◌<◌, length, get_or, drop, replicate}
use Rattle.base.specs.Pick.{pick}
use Rattle.base.specs.Lists.{All}
use Rattle.base.specs.Buffers.{over}
use Rattle.rules.specs.Lists.{member}
use Rattle.rules.specs.Checks.{ceil64}
use Rattle.rules.specs.Script.{Script, Look, look, looks, no_counts, last_or}
use Rattle.rules.specs.Moves.{marks, begin, moved, moved_by, slide_look}
use Rattle.rules.specs.Moves as moves
use Rattle.base.specs.declared.Slide.{Slide}
use Rattle.slide_mapper.specs.declared.lists.MapperLists.{MapperLists}
use Rattle.slide_mapper.specs.State.{flags_of, counts_of, slide_of, Ready}
use Rattle.slide_mapper.specs.Lent.{AtPivot}
use Rattle.base.specs.declared.Kind.{Kind}
use Rattle.script_work.specs.declared.asked.Query.{Query}
use Rattle.script_work.specs.declared.asked.Steps.{Steps}
use Rattle.script_work.specs.declared.looks.Looks.{Looks}
use Rattle.base.specs.Kinds.{kind_number}

-- the script of these lists
abbrev pub script_of : (query coords indexes kinds : List ℕ) → Script
script_of query coords indexes kinds = record { query = query; coords = coords; indexes = indexes; kinds = kinds }

-- the script that is asked for
abbrev pub asked : Query → Steps → Script
asked q s = script_of q.hashes.now q.coords.now s.indexes.now s.kinds.now

-- both output lists hold an answer for each step
pub record Outputs (steps : ℕ) (l : Looks) : Type 0 where
  pub pivots : steps ≤ length l.pivots.now
  pub shareds : steps ≤ length l.shareds.now

-- the work lists have the sizes that m coordinates need
pub record Exact (m : ℕ) (cs ws ss : List ℕ) : Type 0 where
  pub counts : length cs ≡ m
  pub words : length ws ≡ ceil64 m
  pub summary : length ss ≡ ceil64 (ceil64 m)

-- and are clear
pub record Clear (m : ℕ) (cs ws ss : List ℕ) : Type 0 where
  pub counts : cs ≡ replicate m 0
  pub words : ws ≡ replicate (ceil64 m) 0
  pub summary : ss ≡ replicate (ceil64 (ceil64 m)) 0

-- the count words before the first step: 1 where the hash is in the query
unfoldable pub marked : List ℕ → List ℕ → List ℕ
marked query coords = map (λ (c : ℕ). pick (member c query) 1 0) coords

-- the lists hold the state that the rules begin with
pub record Begun (query coords cs ws ss : List ℕ) (at : Slide) : Type 0 where
  pub ready : Ready cs ws ss at
  pub flags : flags_of cs ≡ marks query coords
  pub slide : slide_of cs at ≡ begin query coords

-- one step is the rules' move
pub record Stepped (old : MapperLists) (at : Slide) (kind : Kind) (i : ℕ) (new : MapperLists) (r : Slide) : Type 0 where
  pub at_pivot : AtPivot new r
  pub size : length new.counts.now ≡ length old.counts.now
  pub flags : flags_of new.counts.now ≡ flags_of old.counts.now
  pub slide : slide_of new.counts.now r ≡ moved (flags_of old.counts.now) (kind_number kind) i (slide_of old.counts.now at)

-- what a script answers of a state
abbrev pub look_of : Slide → Look
look_of at = record { pivot = at.pivot.0; shared = at.shared }

-- and after each step from a state of the rules
unfoldable pub looks_from : List Bool → List ℕ → List ℕ → moves.Slide → List Look
looks_from ms indexes kinds s = map slide_look (moved_by ms indexes kinds s)

-- a state after j steps of a run: no count above j, steps within the coordinates, room for their answers
pub record Underway (s : Steps) (m : MapperLists) (l : Looks) (at : Slide) (j : ℕ) : Type 0 where
  pub at_pivot : AtPivot m at
  pub few : (i : ℕ) → get_or (counts_of m.counts.now) i 0 ≤ j
  pub within : All (λ i. i < length m.counts.now) s.indexes.now
  pub outputs : Outputs (length s.indexes.now) l

-- what a run asks: the state before its first step, with no active reference
abbrev pub Start : Steps → MapperLists → Looks → Slide → Type 0
Start s m l at = Underway s m l at 0

-- the answers stand over the fronts of both output lists, and the end is the last of them, or the start where there is none
pub record Answered (start : Look) (answers : List Look) (before after : Looks) (end : Look) : Type 0 where
  pub pivots : after.pivots.now ≡ over (map (λ (l : Look). l.pivot) answers) before.pivots.now
  pub shareds : after.shareds.now ≡ over (map (λ (l : Look). l.shared) answers) before.shareds.now
  pub last : end ≡ last_or start answers

-- of a run's answers j are done and stand in the outputs, and the steps from j on give the others
pub record Reached (ms : List Bool) (s : Steps) (start : Look) (answers : List Look) (first : Looks) (m : MapperLists) (l : Looks) (at : Slide) (j : ℕ) : Type 0 where
  pub done : List Look
  pub many : length done ≡ j
  pub flags : flags_of m.counts.now ≡ ms
  pub rest : done ++ looks_from ms (drop j s.indexes.now) (drop j s.kinds.now) (slide_of m.counts.now at) ≡ answers
  pub answered : Answered start done first l (look_of at)

-- the steps from i to j: in whatever run i answers were done before, j are done after
pub record Further (s : Steps) (m : MapperLists) (l : Looks) (at : Slide) (i : ℕ) (m' : MapperLists) (l' : Looks) (r : Slide) (j : ℕ) : Type 0 where
  pub underway : Underway s m' l' r j
  pub reached : (ms : List Bool) (start : Look) (answers : List Look) (first : Looks)
      → Reached ms s start answers first m l at i → Reached ms s start answers first m' l' r j

-- the whole work: the answers are the rules', from the state with no active reference, and the work lists are clear
pub record Worked (s : Script) (before : Looks) (cs ws ss : List ℕ) (after : Looks) (r : Slide) : Type 0 where
  pub clear : Clear (length s.coords) cs ws ss
  pub answered : Answered (look s.query s.coords (no_counts s.coords)) (looks s) before after (look_of r)
