-- Whether an object of a set matches, by what is found of its key.
use Rattle.vc_base.proofs.Common.{◌≡◌, ℕ, Bool, true, false, not, ◌&&◌, ◌≤◌, ◌+◌, ◌%◌, ◌==◌, List, map, length, None, Option, option_map, is_some, sym, refl, ap, ◌∙◌, subst, true≢false, arith, length-map, Blocks, has_table, is_set, is_ordered}
use Rattle.vc_base.specs.declared.addr.Addr.{Addr}
use Rattle.vc_base.specs.declared.dict_method.DictMethod.{DictMethod}
use Rattle.vc_base.specs.declared.dict_method.DictMethod.TheVariants.{DtSet, DtBag, DtOset, DtObag, DtList, DtStack, DtQueue}
use Rattle.vc_base.proofs.Options.{is_some-map}
use Rattle.vc_dtdisc.specs.Finds.{find_key}
use Rattle.vc_dtdisc.specs.Objects.{Object, address_of, bytes_of, first_with}
use Rattle.vc_dtdisc.specs.Rules.{Rules}
use Rattle.vc_dtdisc.proofs.ObjectsLemmas.{first_with-map}
use Rattle.vc_dtlist.specs.Linked as linked
use Rattle.vc_dthash.specs.Chained.{hash_at}
use Rattle.vc_dthash.proofs.FilterLemmas.{filter-shorter}
use Rattle.vc_dtord.specs.declared.dt_ord.DtOrd.{DtOrd}
use Rattle.vc_dtord.specs.Ordered.{OrdFor}
use Rattle.vc_dict.specs.Listed.{holders_of}
use Rattle.vc_dict.specs.Methods.{wanted_by}
use Rattle.vc_dict.specs.Stands.{HeadsFor, heads_compares}
use Rattle.vc_dict.specs.declared.dict.Dict.{Dict}
use Rattle.vc_dict.specs.declared.form.Form.{Form}
use Rattle.vc_dict.specs.declared.form.Form.TheVariants.{Hash, Links, Order}
use Rattle.vc_objects.specs.Insert.{slots_wanted}
use Rattle.vc_objects.specs.Objects.{Dictionary, slots_of}
use Rattle.vc_objects.specs.Parts.{IsWhole, dictionary_of, object_of}
use Rattle.vc_objects.specs.Puts.Puts.{is_matched}

-- one of its objects is found where one of its holders is
found-holder : (rules : Rules) (d : Dict) (b : Blocks) (key : List ℕ) → is_some (first_with bytes_of rules key (dictionary_of d b).objects) ≡ is_some (find_key rules b key (holders_of d b))
found-holder rules d b key =
    ap is_some (first_with-map (object_of b) bytes_of rules key (holders_of d b))
    ∙ is_some-map (object_of b) (find_key rules b key (holders_of d b))

-- a set has one that matches exactly where one is found
pub matched-set : (rules : Rules) (bytes : List ℕ) (d : Dictionary) (found : Bool) → is_set d.method ≡ true → is_some (first_with bytes_of rules (rules.key bytes) d.objects) ≡ found → is_matched rules bytes d ≡ found
matched-set rules bytes d found set e = ap (λ t. t && is_some (first_with bytes_of rules (rules.key bytes) d.objects)) set ∙ e

pub matched-other : (rules : Rules) (bytes : List ℕ) (d : Dictionary) → is_set d.method ≡ false → is_matched rules bytes d ≡ false
matched-other rules bytes d set = ap (λ t. t && is_some (first_with bytes_of rules (rules.key bytes) d.objects)) set

-- so where its holders were searched
pub matched-key : (rules : Rules) (bytes : List ℕ) (d : Dict) (b : Blocks) (key : List ℕ) (found : Bool) → is_set d.method ≡ true → key ≡ rules.key bytes → is_some (find_key rules b key (holders_of d b)) ≡ found → is_matched rules bytes (dictionary_of d b) ≡ found
matched-key rules bytes d b key found set e h =
    matched-set rules bytes (dictionary_of d b) found set (ap (λ k. is_some (first_with bytes_of rules k (dictionary_of d b).objects)) (sym e) ∙ found-holder rules d b key ∙ h)

-- what an ordered dictionary's tree stands for
pub ord-read : (rules : Rules) (d : Dict) (ord : DtOrd) (b : Blocks) → d.heads ≡ Order ord → IsWhole rules d b → OrdFor rules ord b (holders_of d b)
ord-read rules d ord b form whole = subst (λ z. HeadsFor rules z b (holders_of d b)) form whole.stands.heads

-- as many compares as there are holders are as many as there are objects
pub few-steps : (b : Blocks) (xs : List ℕ) (start now : ℕ) → now ≤ start + length xs → now ≤ start + length (map (object_of b) xs)
few-steps b xs start now h = let e = length-map xs (object_of b) in omega (arith, h, e)

-- whether one matches, by whether something becomes of the object
pub matched-told : (matched told : Bool) → told ≡ not matched → matched ≡ not told
matched-told true told e = sym (ap not e)
matched-told false told e = sym (ap not e)

-- what was found by its address
pub found-object : (o : Option Addr) (first : Option Object) → option_map linked.number_of o ≡ option_map address_of first → is_some o ≡ is_some first
found-object o first e = sym (is_some-map linked.number_of o) ∙ ap is_some e ∙ is_some-map address_of first

-- as many compares as there are objects suffice for a search
pub few-compares : (rules : Rules) (heads : Form) (b : Blocks) (key xs : List ℕ) → heads_compares rules heads b key xs ≤ length xs
few-compares rules (Hash hash) b key xs = filter-shorter (λ a. hash_at rules b a % hash.slots == rules.hash key % hash.slots) xs
few-compares rules (Order ord) b key xs = omega arith
few-compares rules (Links list) b key xs = omega arith

-- a dictionary that is ordered wants no table
pub no-room-wanted : (d : Dictionary) → is_ordered d.method ≡ true → slots_wanted d ≡ None
no-room-wanted d o = by d.method o
  where
    by : (method : DictMethod) → is_ordered method ≡ true → wanted_by method (slots_of d.table) (length d.objects) 1 ≡ None
    by DtSet h = absurd (true≢false (sym h))
    by DtBag h = absurd (true≢false (sym h))
    by DtOset h = refl
    by DtObag h = refl
    by DtList h = absurd (true≢false (sym h))
    by DtStack h = absurd (true≢false (sym h))
    by DtQueue h = absurd (true≢false (sym h))

-- a set has a table, or it is ordered
pub set-form : (method : DictMethod) → is_set method ≡ true → has_table method ≡ false → is_ordered method ≡ false → ⊥
set-form DtSet s t o = true≢false t
set-form DtBag s t o = true≢false t
set-form DtOset s t o = true≢false o
set-form DtObag s t o = true≢false o
set-form DtList s t o = true≢false (sym s)
set-form DtStack s t o = true≢false (sym s)
set-form DtQueue s t o = true≢false (sym s)
