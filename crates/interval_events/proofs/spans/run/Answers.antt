-- `run` scores every span: the best so far with the spans to come is the best of all, and while the keys of one position are applied the spans from there on
-- stay the same.
use mathlib.Core.Path.{◌≡◌, sym, ap, subst, ◌∙◌}
use mathlib.Core.Bool.{Bool}
use mathlib.Core.List.{List}
use Prim.Native.Nat.{ℕ, ◌+◌, ◌<◌}
use native.Mathlib.Omega.{arith}
use lib.ListN.{length, get_or, drop}
use Rattle.base.proofs.Lists.{all_at}
use Rattle.rules.specs.Sweep.{best_from, base}
use Rattle.rules.specs.Interval.{event_at, event_kind, event_coord, spans_from}
use Rattle.slide_mapper.specs.State.{counts_of}
use Rattle.interval_events.specs.Spans.{Asks}
use Rattle.interval_events.proofs.Spanning.{applying_after, applying_more, Leaves, leaves_other, leaves_end, rest_opens, rest_ends, one_more, first_scored, next_scored, same_length}
use Rattle.interval_events.proofs.spans.run.Goals.{else-group-test, then-group-test+then-position-p}
use Rattle.interval_events.proofs.spans.run.Goals as goal

pub step-at-requires : goal.step-at-requires
step-at-requires c =
    let comes : c.group.i < length c.args.keys.now = omega (arith, c.group-test.true) in
    let key = get_or c.args.keys.now c.group.i 0 in
    let v = c.group.invariant.applying in
    record {
      pivot = v.pivot;
      inside = omega (arith, all_at (λ k. event_coord k < length c.args.lists.now.counts.now) c.args.keys.now c.requires.coords c.group.i comes, same_length _ _ v.flags, same_length _ _ c.events.invariant.applying.flags);
      few = omega (arith, v.few (event_coord key), comes, c.requires.few);
    }

pub group-preserved : goal.group-preserved
group-preserved c =
    let comes : c.group.i < length c.args.keys.now = omega (arith, c.group-test.true) in
    let v = c.group.invariant in
    let ks = c.args.keys.now in
    let key = get_or ks c.group.i 0 in
    let here : event_at key ≡ c.position-p.result = sym c.position.ensures ∙ c.if-position-p.false in
    record {
      applying = applying_more v.applying (event_kind key) (event_coord key) comes c.step-at.ensures;
      on = omega (arith, v.on);
      here = v.here;
      spans =
          λ s.
          v.spans s ∙ one_more ks c.group.i s (counts_of c.group.lists.counts.now) c.position-p.result comes here ∙
          ap (λ (ns : List ℕ). spans_from s c.position-p.result ns (drop (c.group.i + 1) ks)) (sym c.step-at.ensures.counts);
    }

pub events-preserved : goal.events-preserved
events-preserved c =
    let ks = c.args.keys.now in
    let i = c.group.i in
    let p = c.position-p.result in
    let v = c.group.invariant in
    let w = c.events.invariant in
    let to = c.args.to.0 in
    let leaves : Leaves p (drop i ks) =
    elim c.group-test.branch [ else-group-test x ↦ leaves_end ks i p x.group-test.false | then-group-test+then-position-p x ↦ leaves_other ks i p x.group-test.true (λ e. x.if-position-p.true (x.position.ensures ∙ e)) ] in
    record {
      applying = applying_after v.applying w.applying.flags;
      best =
          λ s a.
          w.best s a ∙
          ap (best_from c.events.best) (rest_opens ks c.events.i s (counts_of c.events.lists.counts.now) c.events-test.true ∙ ap (λ (q : ℕ). spans_from s q (counts_of c.events.lists.counts.now) (drop c.events.i ks)) (sym v.here) ∙ v.spans s) ∙
          next_scored p to c.span_end-in-events.result (drop i ks) c.events.best c.better-best.result v.applying.pivot c.better-best.ensures c.span_end-in-events.ensures leaves s
          (subst (λ (ms : List Bool). Asks s ms to) (sym (v.applying.flags ∙ w.applying.flags)) a);
    }

pub returns : goal.returns
unfolding best_from base
returns c = λ t a.
    sym
    (first_scored c.args.to.0 c.span_end.result c.requires c.span_end.ensures t a ∙ c.events.invariant.best t a ∙
    ap (best_from c.events.best) (rest_ends c.args.keys.now c.events.i t (counts_of c.events.lists.counts.now) c.events-test.false))
