-- What a method keeps, in its form: by whether it has a table, and whether it is a set.
use Rattle.vc_base.proofs.Common.{◌≡◌, ℕ, Bool, true, false, List, [], ◌∷◌, length, if◌then◌else◌, sym, refl, subst, true≢false, Blocks, has_table, is_ordered, is_set}
use Rattle.vc_base.specs.declared.dict_method.DictMethod.{DictMethod}
use Rattle.vc_base.specs.declared.dict_method.DictMethod.TheVariants.{DtSet, DtBag, DtOset, DtObag, DtList as ByList, DtStack, DtQueue}
use Rattle.vc_dtdisc.specs.Rules.{Rules}
use Rattle.vc_dtlist.specs.declared.dt_list.DtList.{DtList}
use Rattle.vc_dtlist.specs.Linked.{StandsFor}
use Rattle.vc_dtlist.proofs.KeptLemmas.{KeepsBut-none, KeepsTables-but}
use Rattle.vc_dthash.specs.declared.dt_hash.DtHash.{DtHash}
use Rattle.vc_dthash.specs.Hashed.{ChainedUp, list_of}
use Rattle.vc_dict.specs.declared.weeded.Weeded.{Weeded}
use Rattle.vc_dict.specs.Orders.{dropped_holders, kept_holders}
use Rattle.vc_dict.specs.Weeding.{AreWeeded, IsSettled, Settled}

-- a set without a table is ordered
pub ordered_set : (method : DictMethod) → has_table method ≡ false → is_set method ≡ true → is_ordered method ≡ true
ordered_set DtSet h s = absurd (true≢false h)
ordered_set DtBag h s = absurd (true≢false h)
ordered_set DtOset h s = refl
ordered_set DtObag h s = absurd (true≢false (sym s))
ordered_set ByList h s = absurd (true≢false (sym s))
ordered_set DtStack h s = absurd (true≢false (sym s))
ordered_set DtQueue h s = absurd (true≢false (sym s))

-- by both
pub settled-by : (tabled set : Bool) (rules : Rules) (method : DictMethod) (hash : DtHash) (holders : List ℕ) (b : Blocks) (w : Weeded) (b' : Blocks) → has_table method ≡ tabled → is_set method ≡ set
    → IsSettled tabled rules hash holders (if set then kept_holders rules b [] holders else holders) (if set then dropped_holders rules b [] holders else []) b w b' → Settled rules method hash holders b w b'
settled-by tabled set rules method hash holders b w b' h k s =
    subst (λ z. IsSettled z rules hash holders (if is_set method then kept_holders rules b [] holders else holders) (if is_set method then dropped_holders rules b [] holders else []) b w b') (sym h)
    (subst (λ z. IsSettled tabled rules hash holders (if z then kept_holders rules b [] holders else holders) (if z then dropped_holders rules b [] holders else []) b w b') (sym k) s)

-- a bag's holders are all in its chains
pub settled-chains : (rules : Rules) (hash : DtHash) (holders : List ℕ) (b b' : Blocks) (none : DtList) → ChainedUp rules hash holders b b' → StandsFor none b' [] → IsSettled true rules hash holders holders [] b (record { kept = list_of hash; dropped = none; count = hash.count }) b'
settled-chains rules hash holders b b' none c g = record {
  hashed = λ _. c.stands;
  listed = λ e. absurd (true≢false e);
  gone_stands = g;
  apart = λ a h. refl;
  count = c.stands.count;
  keeps = c.keeps;
}

-- an ordered set's are a list
pub settled-list : (rules : Rules) (hash : DtHash) (holders done gone : List ℕ) (b : Blocks) (w : Weeded) (b' : Blocks) → AreWeeded holders done gone b w b' → IsSettled false rules hash holders done gone b w b'
settled-list rules hash holders done gone b w b' a = record {
  hashed = λ e. absurd (true≢false (sym e));
  listed = λ _. a.parts.done_stands;
  gone_stands = a.parts.gone_stands;
  apart = a.parts.apart;
  count = a.parts.count;
  keeps = KeepsTables-but (hash.table.0 ∷ []) holders b b' a.keeps;
}

-- and so are those of any other method without a table, all of them
pub settled-whole : (rules : Rules) (hash : DtHash) (holders : List ℕ) (b : Blocks) (none : DtList) → StandsFor (list_of hash) b holders → hash.count ≡ length holders → StandsFor none b [] → IsSettled false rules hash holders holders [] b (record { kept = list_of hash; dropped = none; count = hash.count }) b
settled-whole rules hash holders b none s count g = record {
  hashed = λ e. absurd (true≢false (sym e));
  listed = λ _. s;
  gone_stands = g;
  apart = λ a h. refl;
  count = count;
  keeps = KeepsTables-but (hash.table.0 ∷ []) holders b b (KeepsBut-none holders b);
}
