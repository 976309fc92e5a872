-- The sweep over a part: where the checks let its lists through, the numbering and the sweep over the events may be asked, and what they answer is what the rules'
-- sweep finds. Assumes nothing.
use mathlib.Core.Path.{◌≡◌, sym, ap, subst, ◌∙◌}
use mathlib.Core.List.{List, [], ◌∷◌, map}
use Prim.Native.Nat.{ℕ, ◌+◌, ◌-◌, ◌≤◌, ◌<◌}
use native.Mathlib.Omega.{arith}
use lib.Dec.{ltb}
use lib.ListN.{length, take, drop, length-map, length-append}
use Rattle.base.specs.Pick.{pick}
use Rattle.base.specs.Lists.{All}
use Rattle.base.specs.declared.Best.{Best}
use Rattle.base.proofs.Checks.{pick-le}
use Rattle.base.proofs.Lists.{all_map}
use Rattle.rules.specs.Score.{union, number_of}
use Rattle.rules.specs.Sweep.{Sweep, best}
use Rattle.rules.specs.Interval.{taken, spans}
use Rattle.rules.proofs.Score.{length_union}
use Rattle.slide_mapper.specs.State.{flags_of, counts_of}
use Rattle.slide_mapper.proofs.Marked.{ones-length}
use Rattle.coordinates.specs.Coordinates.{flags}
use Rattle.interval_events.specs.Events.{kept, Front}
use Rattle.std.specs.Prelude.{None, Some}
use Rattle.sweep.specs.declared.work.Work.{Work}
use Rattle.interval_events.specs.declared.intervals.Intervals.{Intervals}
use Rattle.interval_work.specs.Work.{Given, Tells, Zero, Rooms, Numbers, Part, Lent, Found}
use Rattle.interval_events.proofs.Gathering.{front_long, kept_many, pick-length}
use Rattle.interval_work.proofs.Numbering.{flags_blank, items_behind, items_inside}
use Rattle.interval_work.proofs.Meaning.{part_items, part_coords, part_tells}

kept_few : (from : ℕ) (es xs : List ℕ) → length (kept from es xs) ≤ length xs
unfolding kept pick
kept_few from [] xs = omega arith
kept_few from (e ∷ es) [] = omega arith
kept_few from (e ∷ es) (x ∷ xs) = omega (arith, length-append (pick (ltb from e) (x ∷ []) []) (kept from es xs), pick-length (ltb from e) x, pick-le (ltb from e), kept_few from es xs)

zero_less : {m : ℕ} {xs : List ℕ} (n : ℕ) → n ≤ m → Zero m xs → Zero n xs
zero_less n l z = record { zeros = z.zeros; long = omega (arith, z.long) }

module _ {query : List ℕ} {xs : Intervals} {w : Work} {out : List ℕ} (g : Lent query xs w out) (from : ℕ) {ev : List ℕ} {n : ℕ} (f : Front (kept from xs.ends.now xs.hashes.now) ev n) where
  abbrev hs : List ℕ
  hs = xs.hashes.now

  abbrev ss : List ℕ
  ss = xs.starts.now

  abbrev es : List ℕ
  es = xs.ends.now

  abbrev ths : List ℕ
  ths = kept from es hs

  pub part_few : n ≤ length hs
  part_few = omega (arith, f.many, kept_few from es hs)

  pub part_rooms : Rooms query (take n ev) w.keys.now w.counts.now w.coords.now
  part_rooms =
      let long = front_long f in
      record {
        few = omega (arith, part_few, g.few_hashes, g.few_items);
        key_room = omega (arith, part_few, g.key_room);
        count_room = zero_less (length query + length (take n ev)) (omega (arith, part_few)) g.count_room;
        coord_room = omega (arith, part_few, g.coord_room);
      }

  pub part_none : n ≡ 0 → (to : ℕ) (s : Sweep) → Part s query xs from to → Found s None
  part_none e to s k = sym (part_items k) ∙ sym f.many ∙ e

  module _ {counts' coords' : List ℕ} {c : ℕ} (a : Numbers query (take n ev) counts' coords' c) where
    abbrev u : List ℕ
    u = union query ths

    told : Numbers query ths counts' coords' c
    told = subst (λ (xs : List ℕ). Numbers query xs counts' coords' c) f.are a

    pub part_coords_few : c ≤ length query + n
    part_coords_few = omega (arith, told.many, length_union query ths, f.many)

    -- the numbers of the taken intervals
    abbrev ns : List ℕ
    ns = take (length query + n - length query) (drop (length query) coords')

    ns_are : ns ≡ map (number_of u) ths
    ns_are = items_behind told n f.many

    ns_long : length ns ≡ n
    ns_long = ap length ns_are ∙ length-map ths (number_of u) ∙ sym f.many

    flags_long : length (take c counts') ≡ length u
    unfolding flags
    flags_long = ap length told.flags_are ∙ ones-length query u

    pub part_given : (keys' out' : List ℕ) → length keys' ≡ length w.keys.now → length out' ≡ length out → Given xs ns keys' (take c counts') w.words.now w.summary.now out' from
    part_given keys' out' kl ol = record {
      taken_are = ns_long ∙ f.many ∙ kept_many from es hs ss xs.same_ends (xs.same_ends ∙ sym xs.same_starts);
      few = omega (arith, ns_long, part_few, g.few_items);
      key_room = omega (arith, ns_long, part_few, g.key_room);
      room = omega (arith, ns_long, part_few, g.room);
      blank = flags_blank query ths (length query + length hs) g.query_asc g.some told.flags_are (omega (arith, part_coords_few, part_few, told.many)) (omega (arith, g.few_hashes, g.few_items)) g.word_room g.summary_room g.word_few (omega (arith, g.summary_room.long));
      numbers = subst (λ (xs : List ℕ). All (λ i. i < length (take c counts')) xs) (sym ns_are) (all_map (λ i. i < length u) (λ i. i < length (take c counts')) (λ i l. omega (arith, flags_long)) (map (number_of u) ths) (items_inside query ths));
    }

    pub part_found : 0 < n → (b : Best) (to : ℕ) → ((s : Sweep) → Tells s (flags_of (take c counts')) (counts_of (take c counts')) xs ns from to → b ≡ best (spans s)) → (s : Sweep) → Part s query xs from to → Found s (Some (record { best = b; coords = c; items = n }))
    part_found l b to h s k =
        let items : n ≡ length (taken s) = f.many ∙ part_items k in
        record {
          some = omega arith;
          items_are = items;
          coords_are = told.many ∙ ap length (sym (part_coords k));
          best_is =
              h s
              (subst (λ (xs' : List ℕ). Tells s (flags_of (take c counts')) (counts_of (take c counts')) xs xs' from to) (sym ns_are)
              (part_tells k g.query_asc (take c counts') told.flags_are));
        }
