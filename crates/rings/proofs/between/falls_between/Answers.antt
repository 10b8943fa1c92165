use Rattle.keys.proofs.RankOrder.{lawful_kind}
use Rattle.rings.proofs.Laws.{rank_ring_laws}
use Rattle.rings.proofs.between.falls_between.Goals as goal

pub returns-then-above-below-clause-laws : goal.returns-then-above-below-clause-laws
returns-then-above-below-clause-laws g c = let met = g.met.K.Key in rank_ring_laws g.K.Key.order g.K.Key.digest (lawful_kind met.turned met.chained met.hashed) c.args.k

pub returns-else-above-below-clause-laws : goal.returns-else-above-below-clause-laws
returns-else-above-below-clause-laws g c = let met = g.met.K.Key in rank_ring_laws g.K.Key.order g.K.Key.digest (lawful_kind met.turned met.chained met.hashed) c.args.k
