use Rattle.vc_dtlist.proofs.KeptLemmas.{KeepsBut-none}
use Rattle.vc_dict.proofs.form.Form.into_list.Goals as goal

pub into_list-requires : goal.into_list-requires
into_list-requires g c = record { rules = c.requires.rules; is = record { holders = c.requires.holders; stands = rw c.in-Hash.is at c.requires.stands } }

pub flatten-requires : goal.flatten-requires
flatten-requires g c = record { rules = c.requires.rules; holders = c.requires.holders; stands = rw c.in-Order.is at c.requires.stands; length = c.requires.length }

pub returns-in-Hash : goal.returns-in-Hash
returns-in-Hash g c = record { change = rw c.in-Hash.is c.into_list.ensures.change; rest = c.into_list.ensures.rest }

pub returns-in-Order : goal.returns-in-Order
returns-in-Order g c = record { change = rw c.in-Order.is c.flatten.ensures.change; rest = c.flatten.ensures.rest }

pub returns-in-Links : goal.returns-in-Links
returns-in-Links g c = record {
  change = rw c.in-Links.is (λ rules holders s. record { stands = s; keeps = KeepsBut-none holders (g.C.Cells.blocks c.args.cells.now) });
  rest = g.met.C.Cells.reflexive _;
}
