use Rattle.text.proofs.Adding.{added_twice}
use Rattle.explain.proofs.explanation.explain_message.Goals as goal

pub returns-in-Berths-clause-text : goal.returns-in-Berths-clause-text
returns-in-Berths-clause-text g c = rw (c.explain_call.ensures.text, c.push_bytes.ensures, added_twice, c.in-Berths.is)

pub returns-in-Ships-clause-text : goal.returns-in-Ships-clause-text
returns-in-Ships-clause-text g c = rw (c.explain_call-in-Ships.ensures.text, c.push_bytes-in-Ships.ensures, added_twice, c.in-Ships.is)
