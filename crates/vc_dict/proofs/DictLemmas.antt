-- A dictionary after its list, its hash or its ordered one changed.
use Rattle.vc_base.proofs.Common.{◌≡◌, ℕ, ◌^◌, ◌<◌, true, List, [], ◌∷◌, length, Some, None, Option, option_map, unwrap_or, sym, refl, ap, ◌∙◌, subst, true≢false, arith, Blocks, contains}
use Rattle.vc_base.specs.declared.addr.Addr.{Addr}
use Rattle.vc_base.proofs.Members.{apart-cons}
use Rattle.vc_dtdisc.specs.Rules.{Rules}
use Rattle.vc_dtlist.specs.declared.dt_list.DtList.{DtList}
use Rattle.vc_dtlist.specs.TableWrites.{KeepsTables}
use Rattle.vc_dtlist.specs.Linked.{Turned, number_of}
use Rattle.vc_dtlist.proofs.KeptLemmas.{KeepsBut-none, KeepsTables-but}
use Rattle.vc_dthash.specs.declared.dt_hash.DtHash.{DtHash}
use Rattle.vc_dthash.specs.Hashed.{HashTurned}
use Rattle.vc_dtord.specs.declared.dt_ord.DtOrd.{DtOrd}
use Rattle.vc_dtord.specs.Ordered.{OrdTurned}
use Rattle.vc_dict.specs.declared.dict.Dict.{Dict}
use Rattle.vc_dict.specs.declared.form.Form.{Form}
use Rattle.vc_dict.specs.declared.form.Form.TheVariants.{Hash, Links, Order}
use Rattle.vc_dict.specs.Stands.{Became, HeadsFor, HeadsTurned, IsMember, Stands, table_at, table_in}
use Rattle.vc_dict.proofs.OwnLemmas.{count-fits, holders-told}

-- it counts fewer than 2^32 holders, and stands for one list alone
pub few : (rules : Rules) (d : Dict) (b : Blocks) (xs : List ℕ) → Stands rules d b xs → d.count < 2 ^ 32
few rules d b xs s = let h = count-fits rules d b xs s in omega (arith, s.count)

pub Stands-unique : (rules rules' : Rules) (d : Dict) (b : Blocks) (xs ys : List ℕ) → Stands rules d b xs → Stands rules' d b ys → xs ≡ ys
Stands-unique rules rules' d b xs ys s t = sym (holders-told rules d b xs s) ∙ holders-told rules' d b ys t

-- its heads changed, how many it counts, and the current one
pub Became-heads : (rules : Rules) (d : Dict) (heads : Form) (n : ℕ) (current : Addr) (b b' : Blocks) (written xs ys : List ℕ) → Stands rules d b xs → HeadsTurned rules written d.heads b heads b' ys → n ≡ length ys → Became rules written d b (record d { heads = heads; count = n; current = current }) b' ys current.0
Became-heads rules d heads n current b b' written xs ys s t count = record {
  stands = record { form = t.form d.method s.form; heads = t.stands; count = count };
  current = refl;
  method = refl;
  kind = refl;
  table = t.table;
  slots = t.slots;
  keeps = t.keeps;
}

-- a hash changed, a tree, or a list
pub turned-hash : (rules : Rules) (hash new : DtHash) (at : ℕ) (b b' : Blocks) (xs ys : List ℕ) → HashTurned rules at xs hash b new b' ys → HeadsTurned rules (at ∷ xs) (Hash hash) b (Hash new) b' ys
turned-hash rules hash new at b b' xs ys t = record { stands = t.stands; form = λ method f. f; table = t.table; slots = t.slots; keeps = t.keeps }

pub turned-ord : (rules : Rules) (ord new : DtOrd) (written : List ℕ) (b b' : Blocks) (ys : List ℕ) → OrdTurned rules written b new b' ys → HeadsTurned rules written (Order ord) b (Order new) b' ys
turned-ord rules ord new written b b' ys t = record { stands = t.stands; form = λ method f. f; table = refl; slots = refl; keeps = KeepsTables-but (0 ∷ []) written b b' t.keeps }

pub turned-list : (rules : Rules) (list new : DtList) (at : ℕ) (b b' : Blocks) (xs ys : List ℕ) → Turned at xs b new b' ys → HeadsTurned rules (at ∷ xs) (Links list) b (Links new) b' ys
turned-list rules list new at b b' xs ys t = record { stands = t.stands; form = λ method f. f; table = refl; slots = refl; keeps = KeepsTables-but (0 ∷ []) (at ∷ xs) b b' t.keeps }

-- nothing changed
pub turned-none : (rules : Rules) (heads : Form) (written : List ℕ) (b : Blocks) (ys : List ℕ) → HeadsFor rules heads b ys → HeadsTurned rules written heads b heads b ys
turned-none rules heads written b ys s = record { stands = s; form = λ method f. f; table = refl; slots = refl; keeps = KeepsTables-but ((table_at heads).0 ∷ []) written b b (KeepsBut-none written b) }

-- one of the holders needs no naming beside them
pub KeepsTables-within : (tables xs : List ℕ) (at : ℕ) (b b' : Blocks) → contains xs at ≡ true → KeepsTables tables (at ∷ xs) b b' → KeepsTables tables xs b b'
KeepsTables-within tables xs at b b' w k = record {
  there = k.there;
  sizes = k.sizes;
  bodies = k.bodies;
  others = λ a t h. k.others a t (apart-cons at xs a (λ e. true≢false (sym (subst (λ z. contains xs z ≡ true) e w) ∙ h)) h);
}

pub Became-within : (rules : Rules) (xs : List ℕ) (at : ℕ) (d d' : Dict) (b b' : Blocks) (ys : List ℕ) (current : ℕ) → contains xs at ≡ true → Became rules (at ∷ xs) d b d' b' ys current → Became rules xs d b d' b' ys current
Became-within rules xs at d d' b b' ys current w t = record {
  stands = t.stands;
  current = t.current;
  method = t.method;
  kind = t.kind;
  table = t.table;
  slots = t.slots;
  keeps = KeepsTables-within ((table_in d).0 ∷ []) xs at b b' w t.keeps;
}

-- the members of one list
pub member : (rules : Rules) (d : Dict) (b : Blocks) (at : ℕ) (xs : List ℕ) → IsMember rules d b at → Stands rules d b xs → contains xs at ≡ true
member rules d b at xs m s = subst (λ z. contains z at ≡ true) (Stands-unique rules rules d b m.holders xs m.stands s) m.within

-- one change after another, of which the first left the list
pub KeepsTables-trans : (tables xs : List ℕ) (a b c : Blocks) → KeepsTables tables xs a b → KeepsTables tables xs b c → KeepsTables tables xs a c
KeepsTables-trans tables xs a b c j k = record {
  there = λ x. k.there x ∙ j.there x;
  sizes = λ x. k.sizes x ∙ j.sizes x;
  bodies = λ x t. k.bodies x t ∙ j.bodies x t;
  others = λ x t h. k.others x t h ∙ j.others x t h;
}

pub Became-trans : (rules : Rules) (xs : List ℕ) (d e f : Dict) (a b c : Blocks) (ys zs : List ℕ) (current current' : ℕ) → Became rules xs d a e b ys current → Became rules xs e b f c zs current' → Became rules xs d a f c zs current'
Became-trans rules xs d e f a b c ys zs current current' t u = record {
  stands = u.stands;
  current = u.current;
  method = u.method ∙ t.method;
  kind = u.kind ∙ t.kind;
  table = u.table ∙ t.table;
  slots = u.slots ∙ t.slots;
  keeps = KeepsTables-trans ((table_in d).0 ∷ []) xs a b c t.keeps (subst (λ z. KeepsTables (z.0 ∷ []) xs b c) t.table u.keeps);
}

-- the current one is another
pub Became-current : (rules : Rules) (written : List ℕ) (d : Dict) (at : Addr) (b b' : Blocks) (d' : Dict) (ys : List ℕ) → Became rules written (record d { current = at }) b d' b' ys at.0 → Became rules written d b d' b' ys at.0
Became-current rules written d at b b' d' ys t = record {
  stands = t.stands;
  current = t.current;
  method = t.method;
  kind = t.kind;
  table = t.table;
  slots = t.slots;
  keeps = t.keeps;
}

pub Stands-current : (rules : Rules) (d : Dict) (at : Addr) (b : Blocks) (xs : List ℕ) → Stands rules d b xs → Stands rules (record d { current = at }) b xs
Stands-current rules d at b xs s = record { form = s.form; heads = s.heads; count = s.count }

-- an address that may be none
pub or_none : (o : Option Addr) (other : Addr) (p : Option ℕ) → option_map number_of o ≡ p → other.0 ≡ 0 → (unwrap_or o other).0 ≡ unwrap_or p 0
or_none None other p e z = z ∙ ap (λ q. unwrap_or q 0) e
or_none (Some a) other p e z = ap (λ q. unwrap_or q 0) e
