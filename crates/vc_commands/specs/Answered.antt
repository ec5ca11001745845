-- What a call answers that puts its reply into a place that its caller lends.
use Rattle.std.specs.Prelude.{Result, Ok, Err}
use Rattle.vc_script.specs.declared.reply.Reply.{Reply}

-- the reply that stands there, or the error
abbrev pub answered : {U E : Type 0} → Result U E → Reply → Result Reply E
answered (Ok done) reply = Ok reply
answered (Err why) reply = Err why
