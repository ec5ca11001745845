-- A kind whose keys all have one hash.
use Rattle.std.proofs.Common.{refl}
use Rattle.vc_dtdisc.specs.Rules.{AreLawful, Rules}
use Rattle.vc_dtdisc.specs.Shapes.{BuiltInKind, rules_of}
use Rattle.vc_dtdisc.specs.ShapeLaws.{rules-lawful}

-- the rules of a built-in kind, but that each hash is 7
abbrev pub with_one_hash : BuiltInKind → Rules
with_one_hash kind = record (rules_of kind.shape) { hash = λ key. 7 }

-- they are lawful
pub one-lawful : (kind : BuiltInKind) → AreLawful (with_one_hash kind)
one-lawful kind =
    let laws = rules-lawful kind in
    record {
      order = laws.order;
      hashes = λ a b e. refl;
      made_matches = laws.made_matches;
      made_is_object = laws.made_is_object;
    }
