-- Ranges written as they end: those that are done, the range that is held and what is still to come make the whole. A range that joins changes the held
-- one and no list; one that does not has the held one written after those that are done. Assumes nothing.
use mathlib.Core.Path.{◌≡◌, refl, sym, ap, ◌∙◌}
use mathlib.Core.Logic.{◌⊎◌, inl, inr, ⊎_elim}
use mathlib.Core.Bool.{true, false}
use mathlib.Core.List.{List, [], ◌∷◌, ◌++◌, map, append-nil}
use Prim.Native.Nat.{ℕ, ◌+◌, ◌≤◌}
use native.Mathlib.Omega.{arith}
use lib.ListN.{length, length-append, length-set}
use lib.Seq.{append_snoc}
use Rattle.std.specs.Prelude.{Option, Some, None}
use Rattle.base.specs.Buffers.{over}
use Rattle.base.proofs.Buffers.{pushed}
use Rattle.rules.specs.Finder.{Candidate, joins, join_from, join_all}
use Rattle.rules.proofs.FinderJoin.{join_none, join_first, join_end, join_in, join_out}
use Rattle.rules.proofs.Score.{cases}
use Rattle.candidate_ranges.specs.declared.candidates.CandidateLists.{CandidateLists}
use Rattle.candidate_ranges.specs.declared.candidates.Held.{Held}
use Rattle.candidate_ranges.specs.Ranges.{range_in, SameLists, Room, Kept, Put, one_in, begun, Holds, Pushed, Finished, join_to, Holding, Listed}

-- a range is held or none is
pub one_or_none : (o : Option Candidate) → (o ≡ None) ⊎ ((p : Candidate) × (o ≡ Some p))
one_or_none None = inl refl
one_or_none (Some p) = inr (p, refl)

same_then : {a b c : CandidateLists} → SameLists a b → SameLists b c → SameLists a c
same_then s t = record { contigs = t.contigs ∙ s.contigs; starts = t.starts ∙ s.starts; ends = t.ends ∙ s.ends }

-- places for fewer
pub room_within : {k n : ℕ} {m : CandidateLists} → k ≤ n → Room n m → Room k m
room_within l r = record { contigs = omega (arith, r.contigs); starts = omega (arith, r.starts); ends = omega (arith, r.ends) }

-- ---- how many have begun

pub begun_none : (h : Held) → range_in h.last ≡ None → begun h ≡ h.written
begun_none h e = let n : one_in (range_in h.last) ≡ 0 = ap one_in e in omega arith

pub begun_some : (h : Held) (p : Candidate) → range_in h.last ≡ Some p → begun h ≡ h.written + 1
begun_some h p e = ap (λ (o : Option Candidate). h.written + one_in o) e

pub begun_holds : {n : ℕ} {c : Candidate} {r : Held} → Holds n c r → begun r ≡ n + 1
begun_holds {n} {c} {r} s = begun_some r c s.last ∙ ap (λ (k : ℕ). k + 1) s.written

pub begun_pushed : {gap : ℕ} {h : Held} {c : Candidate} {old new : CandidateLists} {r : Held} → Pushed gap h c old new r → begun r ≤ begun h + 1
begun_pushed {gap} {h} {c} {old} {new} {r} x =
    ⊎_elim (λ (e : range_in h.last ≡ None). omega (arith, begun_none h e, begun_holds (x.first e).0))
    (λ (e : (p : Candidate) × (range_in h.last ≡ Some p)).
    ⊎_elim (λ (t : joins gap e.0 c ≡ true). omega (arith, begun_some h e.0 e.1, begun_holds (x.join e.0 e.1 t).0))
    (λ (t : joins gap e.0 c ≡ false). omega (arith, begun_some h e.0 e.1, begun_holds (x.push e.0 e.1 t).0)) (cases (joins gap e.0 c)))
    (one_or_none (range_in h.last))

-- ---- a range comes

-- before any
pub holding_start : {gap : ℕ} {whole rest : List Candidate} {m : CandidateLists} (h : Held) → h.written ≡ 0 → range_in h.last ≡ None → join_all gap rest ≡ whole → Holding gap whole rest m m h
holding_start {gap} {whole} {rest} {m} h w n e = record {
  done = [];
  many = sym w;
  is = ap (λ (o : Option Candidate). join_to gap o rest) n ∙ e;
  contigs = refl;
  starts = refl;
  ends = refl;
  contigs_len = refl;
  starts_len = refl;
  ends_len = refl;
  same = record { contigs = refl; starts = refl; ends = refl };
}

module _ {gap : ℕ} {whole rest : List Candidate} {old now : CandidateLists} {h : Held} (f : Holding gap whole rest old now h) where
  -- none came
  pub holding_skip : {rest' : List Candidate} → rest ≡ rest' → Holding gap whole rest' old now h
  holding_skip {rest'} e = record {
    done = f.done;
    many = f.many;
    is = ap (λ (x : List Candidate). f.done ++ join_to gap (range_in h.last) x) (sym e) ∙ f.is;
    contigs = f.contigs;
    starts = f.starts;
    ends = f.ends;
    contigs_len = f.contigs_len;
    starts_len = f.starts_len;
    ends_len = f.ends_len;
    same = f.same;
  }

  -- nothing was written
  pub holding_kept : {new : CandidateLists} → Kept now new → Holding gap whole rest old new h
  holding_kept k = record {
    done = f.done;
    many = f.many;
    is = f.is;
    contigs = k.contigs ∙ f.contigs;
    starts = k.starts ∙ f.starts;
    ends = k.ends ∙ f.ends;
    contigs_len = ap length k.contigs ∙ f.contigs_len;
    starts_len = ap length k.starts ∙ f.starts_len;
    ends_len = ap length k.ends ∙ f.ends_len;
    same = same_then f.same k.same;
  }

  -- what is asked of the lists at first is still there
  pub holding_room : {n : ℕ} → Room n old → Room n now
  holding_room r = record { contigs = omega (arith, r.contigs, f.contigs_len); starts = omega (arith, r.starts, f.starts_len); ends = omega (arith, r.ends, f.ends_len) }

  -- the held one is written after those that are done
  module _ {new : CandidateLists} (p : Candidate) (e : range_in h.last ≡ Some p) (x : Put now h.written p new) (room : Room (begun h) now) where
    within : h.written + 1 ≤ begun h
    within = omega (arith, begun_some h p e)

    put_contigs : new.contigs.now ≡ over (map (λ (c : Candidate). c.contig) (f.done ++ (p ∷ []))) old.contigs.now
    put_contigs = x.contigs ∙ pushed (λ (c : Candidate). c.contig) f.done p old.contigs.now now.contigs.now h.written f.contigs f.many (omega (arith, within, room.contigs))

    put_starts : new.starts.now ≡ over (map (λ (c : Candidate). c.start) (f.done ++ (p ∷ []))) old.starts.now
    put_starts = x.starts ∙ pushed (λ (c : Candidate). c.start) f.done p old.starts.now now.starts.now h.written f.starts f.many (omega (arith, within, room.starts))

    put_ends : new.ends.now ≡ over (map (λ (c : Candidate). c.end) (f.done ++ (p ∷ []))) old.ends.now
    put_ends = x.ends ∙ pushed (λ (c : Candidate). c.end) f.done p old.ends.now now.ends.now h.written f.ends f.many (omega (arith, within, room.ends))

    put_many : length (f.done ++ (p ∷ [])) ≡ h.written + 1
    put_many = length-append f.done (p ∷ []) ∙ ap (λ (k : ℕ). k + 1) f.many

    put_last : rest ≡ [] → f.done ++ (p ∷ []) ≡ whole
    put_last n =
        ap (λ (l : List Candidate). f.done ++ l) (sym (ap (λ (o : Option Candidate). join_to gap o rest) e ∙ ap (join_from gap p) n ∙ join_end gap p)) ∙ f.is

-- it is the first, it joins the held one, or it has that written
module _ {gap : ℕ} {whole rest : List Candidate} {c : Candidate} {old now new : CandidateLists} {h r : Held} (f : Holding gap whole (c ∷ rest) old now h) (x : Pushed gap h c now new r) (room : Room (begun h) now) where
  another : {c' : Candidate} → Holds h.written c' r × Kept now new → join_to gap (range_in h.last) (c ∷ rest) ≡ join_from gap c' rest → Holding gap whole rest old new r
  another {c'} y e =
      let held = y.0 in
      let k = y.1 in
      record {
        done = f.done;
        many = f.many ∙ sym held.written;
        is = ap (λ (l : List Candidate). f.done ++ l) (ap (λ (o : Option Candidate). join_to gap o rest) held.last ∙ sym e) ∙ f.is;
        contigs = k.contigs ∙ f.contigs;
        starts = k.starts ∙ f.starts;
        ends = k.ends ∙ f.ends;
        contigs_len = ap length k.contigs ∙ f.contigs_len;
        starts_len = ap length k.starts ∙ f.starts_len;
        ends_len = ap length k.ends ∙ f.ends_len;
        same = same_then f.same k.same;
      }

  after : (p : Candidate) → range_in h.last ≡ Some p → joins gap p c ≡ false → Holding gap whole rest old new r
  after p e t =
      let y = (x.push p e t).0 in
      let w = (x.push p e t).1 in
      record {
        done = f.done ++ (p ∷ []);
        many = put_many f p e w room ∙ sym y.written;
        is =
            ap (λ (o : Option Candidate). f.done ++ (p ∷ []) ++ join_to gap o rest) y.last ∙ append_snoc f.done p (join_from gap c rest) ∙
            ap (λ (l : List Candidate). f.done ++ l) (sym (ap (λ (o : Option Candidate). join_to gap o (c ∷ rest)) e ∙ join_out gap p c rest t)) ∙ f.is;
        contigs = put_contigs f p e w room;
        starts = put_starts f p e w room;
        ends = put_ends f p e w room;
        contigs_len = ap length w.contigs ∙ length-set now.contigs.now h.written p.contig ∙ f.contigs_len;
        starts_len = ap length w.starts ∙ length-set now.starts.now h.written p.start ∙ f.starts_len;
        ends_len = ap length w.ends ∙ length-set now.ends.now h.written p.end ∙ f.ends_len;
        same = same_then f.same w.same;
      }

  pub holding_pushed : Holding gap whole rest old new r
  holding_pushed =
      ⊎_elim
      (λ (e : range_in h.last ≡ None).
      another (x.first e) (ap (λ (o : Option Candidate). join_to gap o (c ∷ rest)) e ∙ join_first gap c rest))
      (λ (e : (p : Candidate) × (range_in h.last ≡ Some p)).
      ⊎_elim
      (λ (t : joins gap e.0 c ≡ true).
      another (x.join e.0 e.1 t) (ap (λ (o : Option Candidate). join_to gap o (c ∷ rest)) e.1 ∙ join_in gap e.0 c rest t))
      (λ (t : joins gap e.0 c ≡ false). after e.0 e.1 t) (cases (joins gap e.0 c)))
      (one_or_none (range_in h.last))

-- ---- no more come

module _ {gap : ℕ} {whole : List Candidate} {old now new : CandidateLists} {h : Held} {r : ℕ} (f : Holding gap whole [] old now h) (x : Finished h now new r) (room : Room (begun h) now) where
  finished_none : range_in h.last ≡ None → Listed whole old new r
  finished_none e =
      let y = (x.none e).0 in
      let k = (x.none e).1 in
      let all : f.done ≡ whole = sym (append-nil f.done) ∙ ap (λ (l : List Candidate). f.done ++ l) (sym (ap (λ (o : Option Candidate). join_to gap o []) e ∙ join_none gap)) ∙ f.is in
      record {
        many = y ∙ sym f.many ∙ ap length all;
        contigs = k.contigs ∙ f.contigs ∙ ap (λ (l : List Candidate). over (map (λ (c : Candidate). c.contig) l) old.contigs.now) all;
        starts = k.starts ∙ f.starts ∙ ap (λ (l : List Candidate). over (map (λ (c : Candidate). c.start) l) old.starts.now) all;
        ends = k.ends ∙ f.ends ∙ ap (λ (l : List Candidate). over (map (λ (c : Candidate). c.end) l) old.ends.now) all;
        same = same_then f.same k.same;
      }

  finished_some : (p : Candidate) → range_in h.last ≡ Some p → Listed whole old new r
  finished_some p e =
      let y = (x.some p e).0 in
      let w = (x.some p e).1 in
      let all : f.done ++ (p ∷ []) ≡ whole = put_last f p e w room refl in
      record {
        many = y ∙ sym (put_many f p e w room) ∙ ap length all;
        contigs = put_contigs f p e w room ∙ ap (λ (l : List Candidate). over (map (λ (c : Candidate). c.contig) l) old.contigs.now) all;
        starts = put_starts f p e w room ∙ ap (λ (l : List Candidate). over (map (λ (c : Candidate). c.start) l) old.starts.now) all;
        ends = put_ends f p e w room ∙ ap (λ (l : List Candidate). over (map (λ (c : Candidate). c.end) l) old.ends.now) all;
        same = same_then f.same w.same;
      }

  pub holding_finished : Listed whole old new r × (r ≡ begun h)
  holding_finished =
      ⊎_elim (λ (e : range_in h.last ≡ None). (finished_none e, (x.none e).0 ∙ sym (begun_none h e)))
      (λ (e : (p : Candidate) × (range_in h.last ≡ Some p)). (finished_some e.0 e.1, (x.some e.0 e.1).0 ∙ sym (begun_some h e.0 e.1)))
      (one_or_none (range_in h.last))
