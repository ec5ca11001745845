use Rattle.vc_image_check.proofs.Writing.{header-of, read-again}
use Rattle.vc_image_check.proofs.bytes.laws.read_of_written.Goals as goal

pub returns-clause-head : goal.returns-clause-head
returns-clause-head c = λ contents h. header-of contents h

pub returns-clause-same : goal.returns-clause-same
returns-clause-same c = λ contents h. read-again contents h
