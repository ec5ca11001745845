use Rattle.vc_base.proofs.Common.{sym}
use Rattle.vc_commands.proofs.dict.looking.found.Goals as goal

pub returns-in-Next-clause-found : goal.returns-in-Next-clause-found
returns-in-Next-clause-found g c =
    rw c.in-Next.is (rw (sym c.as_slice-in-Next.ensures) (rw (sym c.key-in-Next.ensures) (rw c.requires.rules c.next.ensures.found)))
