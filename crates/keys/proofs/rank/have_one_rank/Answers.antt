use Rattle.std.proofs.Common.{rules}
use Rattle.keys.proofs.RankOrder.{rank_laws, lawful_kind, one_rank}
use Rattle.keys.proofs.rank.have_one_rank.Goals as goal

pub returns-clause-value : goal.returns-clause-value
returns-clause-value g c = search (rules, one_rank, lawful_kind)

pub returns-clause-laws : goal.returns-clause-laws
returns-clause-laws g c = let met = g.met.K.Key in rank_laws (lawful_kind met.turned met.chained met.hashed) c.args.k
