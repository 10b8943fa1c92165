-- What a seeker sees: the state of its index, but for the requests, which no decision reads.
use Rattle.std.specs.Prelude.{[]}
use Rattle.index.specs.declared.seeker.Seeker.{Seeker}
use Rattle.rules.specs.States.{State, state}

abbrev pub seen_by : {K V : Type 0} → Seeker K V → State K V
seen_by s = state s.core.now s.heads.now s.items.now []
