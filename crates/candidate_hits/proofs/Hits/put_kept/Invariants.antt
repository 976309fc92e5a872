-- `put_kept` counts the hits of neighbouring kept groups, and puts their keys after those of the groups before them where a dropped group or the end is met.
use Rattle.candidate_hits.proofs.Gathering.{Filling}
use Rattle.candidate_hits.proofs.Hits.put_kept.Given as goal

abbrev pub invariant-loop-group : goal.invariant-loop-group
invariant-loop-group l = Filling l.self l.initial.keys l.keys l.group-index l.from l.run l.n
