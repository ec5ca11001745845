use Rattle.vc_base.proofs.Common.{false, refl}
use Rattle.vc_addrmap.proofs.Written.{kid-written}
use Rattle.vc_addrmap.proofs.entries.EntriesNodes.set_right.Goals as goal

pub returns-clause-store : goal.returns-clause-store
returns-clause-store c = kid-written c.args.self.now.slab c.write.new.self.slab c.args.n c.args.v c.entry-entry.result _ c.entry-entry.ensures c.write.ensures false (refl, refl) refl
