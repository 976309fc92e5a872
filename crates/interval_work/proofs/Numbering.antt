-- The coordinates at the fronts of the lent lists: the flags in the count words, with which the mapper may begin over zero bit words, and the numbers of the items
-- behind those of the query. Assumes nothing.
use mathlib.Core.Path.{◌≡◌, sym, ap, ◌∙◌}
use mathlib.Core.Bool.{true, or-true}
use mathlib.Core.List.{List, [], ◌∷◌, ◌++◌, map, map-append, append_assoc}
use Prim.Native.Nat.{ℕ, ◌+◌, ◌-◌, ◌*◌, ◌≤◌, ◌<◌}
use native.Mathlib.Omega.{arith}
use lib.ListN.{length, take, drop, length-map}
use lib.Seq.{take_at, drop_at, length-take-le}
use Rattle.base.specs.Lists.{All, StrictAsc}
use Rattle.rules.specs.Lists.{member}
use Rattle.rules.specs.Checks.{ceil64}
use Rattle.rules.specs.Score.{union, number_of}
use Rattle.rules.specs.Ranks.{size}
use Rattle.rules.proofs.Score.{member_union, union_left, strict_union, number_fits, member_all}
use Rattle.summary_bits.proofs.Words.{clear_bits}
use Rattle.summary_bits.proofs.Kept.{clear_summary}
use Rattle.slide_mapper.specs.State.{flags_of, Blank}
use Rattle.slide_mapper.proofs.Marked.{ones-length, ones_low, ones-size}
use Rattle.coordinates.specs.Coordinates.{flags, numbers, Answered}
use Rattle.interval_work.specs.Work.{Zero, Rooms, Numbers}
use Rattle.interval_events.proofs.Gathering.{take_behind}

-- ---- the mapper may begin

pub flags_blank : (query hashes : List ℕ) (m : ℕ) {cs ws ss : List ℕ} {n : ℕ} → StrictAsc query → 0 < length query → cs ≡ flags query (union query hashes) → length (union query hashes) ≤ m → m ≤ 65536 → Zero (ceil64 m) ws → Zero n ss → length ws ≤ 1024 → length ws ≤ length ss * 64 → Blank cs ws ss
unfolding flags
flags_blank query hashes m {cs} {ws} {ss} {n} rq some e l small y z few high =
    let coords = union query hashes in
    let long : length cs ≡ length coords = ap length e ∙ ones-length query coords in
    let many : size (flags_of cs) ≡ length query =
    ap (λ (x : List ℕ). size (flags_of x)) e ∙ ones-size query coords rq (strict_union query hashes) (λ h i. union_left h query hashes i) in
    record {
      small = omega arith;
      room = omega (arith, y.long);
      fits = record { room = high; small = omega arith };
      flags = λ j. rw e (ones_low query coords j);
      some = omega arith;
      words = clear_bits (length ws) y.zeros;
      summary = clear_summary (length ws) (length ss) y.zeros z.zeros;
    }

-- ---- the numbers

module _ {query hashes keys counts coords : List ℕ} (r : Rooms query hashes keys counts coords) where
  abbrev m : ℕ
  m = length query + length hashes

  pub rooms_numbers : {last last' : List ℕ} {c : ℕ} → length last' ≡ length (take m coords) → Answered query hashes (take m counts) last last' c → Numbers query hashes (last ++ drop m counts) (last' ++ drop m coords) c
  unfolding flags
  rooms_numbers {last} {last'} {c} e a =
      let all = flags query (union query hashes) in
      let same : last ++ drop m counts ≡ all ++ (drop (length all) (take m counts) ++ drop m counts) = ap (λ (xs : List ℕ). xs ++ drop m counts) a.marks ∙ append_assoc all (drop (length all) (take m counts)) (drop m counts) in
      record {
        many = a.numbered.many;
        flags_are = ap (take c) same ∙ take_at all (drop (length all) (take m counts) ++ drop m counts) c (ones-length query (union query hashes) ∙ sym a.numbered.many);
        are = take_at last' (drop m coords) m (e ∙ length-take-le m coords r.coord_room) ∙ a.numbered.are;
      }

-- the items' numbers stand behind the query's
pub items_behind : {query hashes counts coords : List ℕ} {c : ℕ} → Numbers query hashes counts coords c → (n : ℕ) → n ≡ length hashes → take (length query + n - length query) (drop (length query) coords) ≡ map (number_of (union query hashes)) hashes
unfolding numbers
items_behind {query} {hashes} {counts} {coords} a n e =
    let f = number_of (union query hashes) in
    let k = length query in
    let size : k + n - k ≡ length hashes = omega arith in
    ap (λ (t : ℕ). take t (drop k coords)) size ∙ sym (take_behind (length hashes) k coords) ∙ ap (drop k) (a.are ∙ map-append f query hashes) ∙
    drop_at (map f query) (map f hashes) k (length-map query f)

-- and are coordinates
pub items_inside : (query hashes : List ℕ) → All (λ i. i < length (union query hashes)) (map (number_of (union query hashes)) hashes)
items_inside query hashes = inside hashes (member_all (λ h. member h (union query hashes) ≡ true) hashes (λ h m. member_union h query hashes ∙ rw m (or-true (member h query))))
  where
    inside : (hs : List ℕ) → All (λ h. member h (union query hashes) ≡ true) hs → All (λ i. i < length (union query hashes)) (map (number_of (union query hashes)) hs)
    inside [] a = tt
    inside (h ∷ hs) a = (number_fits (union query hashes) (strict_union query hashes) h a.0, inside hs a.1)
