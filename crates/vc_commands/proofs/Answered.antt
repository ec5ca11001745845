-- What an answer with a lent reply keeps of the call's own.
use Rattle.vc_base.proofs.Common.{OnErr, OnOk, Ok, Err, Result}
use Rattle.vc_script.specs.declared.reply.Reply.{Reply}
use Rattle.vc_commands.specs.Answered.{answered}

-- what is left with no memory
pub err-answered : {U E : Type 0} (result : Result U E) (reply : Reply) (Left : Type 0) → OnErr result Left → OnErr (answered result reply) Left
err-answered (Ok done) reply Left h = tt
err-answered (Err why) reply Left h = h

-- and what is so with a reply
pub ok-answered : {U E : Type 0} (result : Result U E) (reply : Reply) (Given : Type 0) → OnOk result Given → OnOk (answered result reply) Given
ok-answered (Ok done) reply Given h = h
ok-answered (Err why) reply Given h = tt
