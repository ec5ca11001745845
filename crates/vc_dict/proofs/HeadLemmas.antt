-- The heads of a dictionary by its method, and what they tell of its holders in whichever form.
use Rattle.vc_base.proofs.Common.{◌≡◌, ℕ, Bool, true, false, ◌≢◌, List, [], ◌∷◌, ◌++◌, length, if◌then◌else◌, ◌==◌, None, sym, refl, ap, ◌∙◌, subst, true≢false, arith, eqb-true, Blocks, word_at, contains, first_of, has_table, is_list, is_ordered}
use Rattle.vc_base.specs.declared.dict_method.DictMethod.{DictMethod}
use Rattle.vc_base.specs.declared.dict_method.DictMethod.TheVariants.{DtSet, DtBag, DtOset, DtObag, DtList as ByList, DtStack, DtQueue}
use Rattle.vc_base.proofs.Members.{apart-tail}
use Rattle.vc_dtdisc.specs.Rules.{Rules}
use Rattle.vc_dtlist.specs.declared.dt_list.DtList.{DtList}
use Rattle.vc_dtlist.specs.Linked.{CanAdd, Chain, IsIn as InList, LinksFor}
use Rattle.vc_dtlist.proofs.AddressLemmas.{AreHolders, LinksFor-holders}
use Rattle.vc_dtlist.proofs.KeptLemmas.{StandsFor-same}
use Rattle.vc_dthash.specs.declared.dt_hash.DtHash.{DtHash}
use Rattle.vc_dthash.specs.Hashed.{CanLink as HashLink, HasTable, list_of}
use Rattle.vc_dthash.specs.Slots.{wanted_slots}
use Rattle.vc_dthash.proofs.HashLemmas.{HashFor-holders, HashFor-same}
use Rattle.vc_dtord.specs.declared.dt_ord.DtOrd.{DtOrd}
use Rattle.vc_dtord.specs.Ordered.{CanLink as OrdLink, OrdFor, order_with}
use Rattle.vc_dtord.proofs.TreeLemmas.{OrdFor-holders, OrdFor-in_order, OrdFor-same}
use Rattle.vc_dict.specs.declared.dict.Dict.{Dict}
use Rattle.vc_dict.specs.declared.form.Form.{Form}
use Rattle.vc_dict.specs.declared.form.Form.TheVariants.{Hash, Links, Order}
use Rattle.vc_dict.specs.Changes.{order_by_link}
use Rattle.vc_dict.specs.Listed.{holders_by, holders_from}
use Rattle.vc_dict.specs.Methods.{wanted_by}
use Rattle.vc_dict.specs.Parts.{HasNoOtherHeads, dict_by, form_by, heads_at, heads_in}
use Rattle.vc_dict.specs.Stands.{CanJoin, CanLink, HeadsFor, IsForm, Stands, slots_at, slots_in, table_at, table_in}

-- no method has both a table and an order, by which a method that has one hasn't the other
pub table_unordered : (method : DictMethod) → has_table method ≡ true → is_ordered method ≡ false
table_unordered DtSet h = refl
table_unordered DtBag h = refl
table_unordered DtOset h = absurd (true≢false (sym h))
table_unordered DtObag h = absurd (true≢false (sym h))
table_unordered ByList h = refl
table_unordered DtStack h = refl
table_unordered DtQueue h = refl

pub ordered_plain : (method : DictMethod) → is_ordered method ≡ true → has_table method ≡ false
ordered_plain DtSet h = absurd (true≢false (sym h))
ordered_plain DtBag h = absurd (true≢false (sym h))
ordered_plain DtOset h = refl
ordered_plain DtObag h = refl
ordered_plain ByList h = refl
ordered_plain DtStack h = refl
ordered_plain DtQueue h = refl

-- a list has neither
list-plain : (method : DictMethod) → is_list method ≡ true → has_table method ≡ false
list-plain DtSet l = absurd (true≢false (sym l))
list-plain DtBag l = absurd (true≢false (sym l))
list-plain DtOset l = refl
list-plain DtObag l = refl
list-plain ByList l = refl
list-plain DtStack l = refl
list-plain DtQueue l = refl

list-unordered : (method : DictMethod) → is_list method ≡ true → is_ordered method ≡ false
list-unordered DtSet l = refl
list-unordered DtBag l = refl
list-unordered DtOset l = absurd (true≢false (sym l))
list-unordered DtObag l = absurd (true≢false (sym l))
list-unordered ByList l = refl
list-unordered DtStack l = refl
list-unordered DtQueue l = refl

-- what they stand for where the method is ordered
by_ord : (rules : Rules) (method : DictMethod) (heads : Form) (b : Blocks) (xs : List ℕ) → is_ordered method ≡ true → IsForm method heads → HeadsFor rules heads b xs → (ord : DtOrd) × OrdFor rules ord b xs
by_ord rules method (Hash hash) b xs o f s = absurd (true≢false (sym o ∙ table_unordered method f))
by_ord rules method (Order ord) b xs o f s = (ord, s)
by_ord rules method (Links list) b xs o f s = absurd (true≢false (sym o ∙ f.1))

pub as_ord : (rules : Rules) (d : Dict) (b : Blocks) (xs : List ℕ) → is_ordered d.method ≡ true → Stands rules d b xs → (ord : DtOrd) × OrdFor rules ord b xs
as_ord rules d b xs o s = by_ord rules d.method d.heads b xs o s.form s.heads

-- they have a table, or none with no slots
pub HeadsFor-table : (rules : Rules) (heads : Form) (b : Blocks) (xs : List ℕ) → HeadsFor rules heads b xs → HasTable b xs (table_at heads).0 (slots_at heads)
HeadsFor-table rules (Hash hash) b xs s = s.table
HeadsFor-table rules (Order ord) b xs s = record { none = λ _. refl; some = λ ne. absurd (ne refl) }
HeadsFor-table rules (Links list) b xs s = record { none = λ _. refl; some = λ ne. absurd (ne refl) }

-- a dictionary of another method has none
none-by : (method : DictMethod) (heads : Form) → has_table method ≡ false → IsForm method heads → (table_at heads).0 ≡ 0
none-by method (Hash hash) h f = absurd (true≢false (sym f ∙ h))
none-by method (Order ord) h f = refl
none-by method (Links list) h f = refl

pub no-table-in : (rules : Rules) (d : Dict) (b : Blocks) (xs : List ℕ) → has_table d.method ≡ false → Stands rules d b xs → (table_in d).0 ≡ 0
no-table-in rules d b xs h s = none-by d.method d.heads h s.form

-- without a table in a set or bag there is no holder
pub empty-hash : (rules : Rules) (method : DictMethod) (heads : Form) (b : Blocks) (xs : List ℕ) → has_table method ≡ true → IsForm method heads → HeadsFor rules heads b xs → (table_at heads).0 ≡ 0 → xs ≡ []
empty-hash rules method (Hash hash) b xs h f s zero = s.empty zero
empty-hash rules method (Order ord) b xs h f s zero = absurd (true≢false (sym f ∙ table_unordered method h))
empty-hash rules method (Links list) b xs h f s zero = absurd (true≢false (sym h ∙ f.0))

-- in each form they stand for holders
pub HeadsFor-holders : (rules : Rules) (heads : Form) (b : Blocks) (xs : List ℕ) → HeadsFor rules heads b xs → AreHolders b xs
HeadsFor-holders rules (Hash hash) b xs s = HashFor-holders rules hash b xs s
HeadsFor-holders rules (Order ord) b xs s = OrdFor-holders rules ord b xs s
HeadsFor-holders rules (Links list) b xs s = LinksFor-holders list b xs s.links

-- which are read from the first one on, or in a tree from its root
from-told : (b : Blocks) (before : ℕ) (xs : List ℕ) (behind at : ℕ) → Chain b before xs behind → at ≡ first_of xs behind → holders_from b (length xs) at ≡ xs
from-told b before [] behind at c e = refl
from-told b before (x ∷ xs) behind at c e =
    rw e (ap (λ z. x ∷ z) (from-told b x xs behind (word_at b x 1) c.1 c.0.next))

links-told : (list : DtList) (b : Blocks) (xs : List ℕ) → LinksFor list b xs → holders_from b (length xs) list.first.0 ≡ xs
links-told list b xs l = from-told b 0 xs 0 list.first.0 l.chain l.first

pub heads-told : (rules : Rules) (heads : Form) (b : Blocks) (xs : List ℕ) → HeadsFor rules heads b xs → holders_by heads b (length xs) ≡ xs
heads-told rules (Hash hash) b xs s = links-told (list_of hash) b xs s.links
heads-told rules (Order ord) b xs s = OrdFor-in_order rules ord b xs (length xs) s (omega arith)
heads-told rules (Links list) b xs s = links-told list b xs s.links

-- and they stand for these still where what is at their addresses stays, and at the table's
HeadsFor-stays : (rules : Rules) (heads : Form) (old new : Blocks) (xs : List ℕ) → ((a : ℕ) → contains xs a ≡ true → new a ≡ old a) → ((table_at heads).0 ≢ 0 → new (table_at heads).0 ≡ old (table_at heads).0) → HeadsFor rules heads old xs → HeadsFor rules heads new xs
HeadsFor-stays rules (Hash hash) old new xs e table s = HashFor-same rules hash old new xs e table s
HeadsFor-stays rules (Order ord) old new xs e table s = OrdFor-same rules ord old new xs e s
HeadsFor-stays rules (Links list) old new xs e table s = StandsFor-same list old new xs e s

pub Stands-stays : (rules : Rules) (d : Dict) (old new : Blocks) (xs : List ℕ) → ((a : ℕ) → contains xs a ≡ true → new a ≡ old a) → ((table_in d).0 ≢ 0 → new (table_in d).0 ≡ old (table_in d).0) → Stands rules d old xs → Stands rules d new xs
Stands-stays rules d old new xs e table s = record {
  form = s.form;
  heads = HeadsFor-stays rules d.heads old new xs e table s.heads;
  count = s.count;
}

-- one may join them in their form
pub CanLink-heads : (rules : Rules) (d : Dict) (b : Blocks) (at : ℕ) (append : Bool) → CanLink rules d b at append → CanJoin rules d.method d.heads b d.current.0 at append
CanLink-heads rules d b at append r = record {
  holders = r.holders;
  form = r.stands.form;
  stands = r.stands.heads;
  apart = r.apart;
  holder = r.holder;
  mark = r.current;
  room = subst (λ n. wanted_by d.method (slots_in d) n 1 ≡ None) r.stands.count r.room;
  list = r.list;
}

within_by : (xs : List ℕ) (a : ℕ) (t : Bool) → (0 == a) ≡ t → contains (0 ∷ xs) a ≡ true → a ≢ 0 → contains xs a ≡ true
within_by xs a true e h ne = absurd (ne (sym (eqb-true 0 a e)))
within_by xs a false e h ne = rw e at h

-- so may it join a hash, an ordered one or a list
module _ (rules : Rules) (method : DictMethod) (b : Blocks) (current at : ℕ) (append : Bool) where
  pub join-hash : (hash : DtHash) → CanJoin rules method (Hash hash) b current at append → HashLink rules hash b at
  join-hash hash r = record {
    holders = r.holders;
    stands = r.stands;
    apart = r.apart;
    holder = r.holder;
    room = subst (λ n. wanted_slots hash.slots n 1 ≡ None) (sym r.stands.count) (sym (ap (λ t. if t then wanted_slots hash.slots (length r.holders) 1 else None) r.form) ∙ r.room);
  }

  pub join-ord : (ord : DtOrd) → CanJoin rules method (Order ord) b current at append → OrdLink rules ord b at
  join-ord ord r = record { holders = r.holders; stands = r.stands; apart = apart-tail 0 r.holders at r.apart; holder = r.holder }

  pub join-list : (list : DtList) → CanJoin rules method (Links list) b current at append → CanAdd list b at
  join-list list r = record { holders = r.holders; stands = r.stands; apart = apart-tail 0 r.holders at r.apart; holder = r.holder }

  pub current-in : (list : DtList) → CanJoin rules method (Links list) b current at append → current ≢ 0 → InList list b current
  current-in list r ne = record { holders = r.holders; stands = r.stands; within = within_by r.holders current (0 == current) refl r.mark ne }

-- where a holder goes by each form
pub linked-hash : (append : Bool) (method : DictMethod) (rules : Rules) (b : Blocks) (current at : ℕ) (xs : List ℕ) → has_table method ≡ true → (append ≡ true → is_list method ≡ true) → order_by_link append method rules b current at xs ≡ xs ++ at ∷ []
linked-hash true method rules b current at xs h l = absurd (true≢false (sym h ∙ list-plain method (l refl)))
linked-hash false DtSet rules b current at xs h l = refl
linked-hash false DtBag rules b current at xs h l = refl
linked-hash false DtOset rules b current at xs h l = absurd (true≢false (sym h))
linked-hash false DtObag rules b current at xs h l = absurd (true≢false (sym h))
linked-hash false ByList rules b current at xs h l = absurd (true≢false (sym h))
linked-hash false DtStack rules b current at xs h l = absurd (true≢false (sym h))
linked-hash false DtQueue rules b current at xs h l = absurd (true≢false (sym h))

pub linked-ord : (append : Bool) (method : DictMethod) (rules : Rules) (b : Blocks) (current at : ℕ) (xs : List ℕ) → is_ordered method ≡ true → (append ≡ true → is_list method ≡ true) → order_by_link append method rules b current at xs ≡ order_with rules b at xs
linked-ord true method rules b current at xs o l = absurd (true≢false (sym o ∙ list-unordered method (l refl)))
linked-ord false DtSet rules b current at xs o l = absurd (true≢false (sym o))
linked-ord false DtBag rules b current at xs o l = absurd (true≢false (sym o))
linked-ord false DtOset rules b current at xs o l = refl
linked-ord false DtObag rules b current at xs o l = refl
linked-ord false ByList rules b current at xs o l = absurd (true≢false (sym o))
linked-ord false DtStack rules b current at xs o l = absurd (true≢false (sym o))
linked-ord false DtQueue rules b current at xs o l = absurd (true≢false (sym o))

-- a form has no numbers that its method has no use for
other-heads : (method : DictMethod) (form : Form) → IsForm method form → HasNoOtherHeads method (heads_at form)
other-heads method (Hash hash) f = record {
  ends = λ o. absurd (true≢false (sym o ∙ table_unordered method f));
  root = λ o. refl;
  table = λ t. absurd (true≢false (sym f ∙ t));
}
other-heads method (Order ord) f = record {
  ends = λ o. record { first = refl; last = refl };
  root = λ o. absurd (true≢false (sym f ∙ o));
  table = λ t. record { table = refl; slots = refl };
}
other-heads method (Links list) f = record {
  ends = λ o. absurd (true≢false (sym o ∙ f.1));
  root = λ o. refl;
  table = λ t. record { table = refl; slots = refl };
}

pub no-other-heads : (rules : Rules) (d : Dict) (b : Blocks) (xs : List ℕ) → Stands rules d b xs → HasNoOtherHeads d.method (heads_in d)
no-other-heads rules d b xs s = other-heads d.method d.heads s.form

-- and its numbers make it
form-again : (rules : Rules) (method : DictMethod) (form : Form) (b : Blocks) (xs : List ℕ) (n : ℕ) → IsForm method form → HeadsFor rules form b xs → n ≡ length xs → form_by method n (heads_at form) ≡ form
form-again rules method (Hash hash) b xs n f s e =
    let count : n ≡ hash.count = e ∙ sym s.count in
    rw (f, count) refl
form-again rules method (Order ord) b xs n f s e = rw (ordered_plain method f, f) refl
form-again rules method (Links list) b xs n f s e = rw (f.0, f.1) refl

pub dict-again : (rules : Rules) (d : Dict) (b : Blocks) (xs : List ℕ) → Stands rules d b xs → dict_by d.method d.kind d.count d.current (heads_in d) ≡ d
dict-again rules d b xs s = ap (λ (form : Form). record d { heads = form }) (form-again rules d.method d.heads b xs d.count s.form s.heads s.count)
