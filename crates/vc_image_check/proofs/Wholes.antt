-- A sound dictionary is whole.
use Rattle.vc_base.proofs.Common.{◌≡◌, ◌≢◌, ℕ, ◌≤◌, Bool, true, false, List, [], ◌∷◌, length, map, contains, sym, refl, ap, ◌∙◌, subst, arith, true≢false, length-drop}
use Rattle.std.specs.List.{AllByRecursion}
use Rattle.std.proofs.lemmas.List.Elements.{recursion_from_All}
use Rattle.vc_base.specs.declared.addr.Addr.{Addr}
use Rattle.vc_base.specs.declared.dict_method.DictMethod.{DictMethod}
use Rattle.vc_base.specs.Cells.{Blocks, bytes_at}
use Rattle.vc_base.specs.Methods.{has_table, is_ordered, is_set}
use Rattle.vc_base.proofs.Members.{within-head, within-tail}
use Rattle.vc_dtdisc.specs.Rules.{IsObject, Rules}
use Rattle.vc_dthash.specs.Chained.{IsHashed}
use Rattle.vc_dict.specs.declared.form.Form.{Form}
use Rattle.vc_dict.specs.declared.form.Form.TheVariants.{Hash, Links, Order}
use Rattle.vc_dict.specs.declared.heads.Heads.{Heads}
use Rattle.vc_dict.specs.Listed.{holders_by, holders_from}
use Rattle.vc_dict.specs.Parts.{dict_by, form_by}
use Rattle.vc_dict.specs.Stands.{HeadsFor, IsForm, table_at}
use Rattle.vc_dict.proofs.HeadLemmas.{ordered_plain}
use Rattle.vc_objects.specs.Parts.{IsWhole, object_of}
use Rattle.vc_image_check.specs.Lists.Sound.{IsSoundList}
use Rattle.vc_image_check.specs.Orders.Sound.{ArePlain, IsSoundOrder}
use Rattle.vc_image_check.proofs.NodeWords.{has-bytes}
use Rattle.vc_image_check.specs.Dicts.Sound.{AreSoundHolders, IsSoundBy, IsSoundHash, holders_in}
use Rattle.vc_dthash.proofs.HashLemmas.{IsSlots-some}
use Rattle.vc_image_check.proofs.Owning.{each-of, length-from, not-within, own-holders, order-names, order-stands}

abbrev Most : Blocks → ℕ → Type 0
Most b a = length (bytes_at b a) ≤ 1056

-- what is asked of a form's holders
pub record OfForm (rules : Rules) (method : DictMethod) (b : Blocks) (count : ℕ) (f : Form) : Type 0 where
  pub form : IsForm method f
  pub heads : HeadsFor rules f b (holders_by f b count)
  pub many : count ≡ length (holders_by f b count)
  pub table : has_table method ≡ true → (table_at f).0 ≢ 0
  pub sizes : (a : ℕ) → contains (holders_by f b count) a ≡ true → length (bytes_at b a) ≤ 1056

module _ (rules : Rules) (b : Blocks) (method : DictMethod) (count : ℕ) (heads : Heads) where
  abbrev hash-form : Form
  hash-form = Hash (record { first = heads.first; last = heads.last; table = heads.table; slots = heads.slots; count = count })

  abbrev order-form : Form
  order-form = Order (record { root = heads.root })

  abbrev links-form : Form
  links-form = Links (record { first = heads.first; last = heads.last })

  abbrev from-first : List ℕ
  from-first = holders_from b count heads.first.0

  of-hash : (alone : Bool) → has_table method ≡ true → IsSoundHash rules b alone count heads → OfForm rules method b count hash-form
  of-hash alone t h =
      let long : length from-first ≡ count = length-from b count heads.first.0 in
      let some = IsSlots-some heads.slots h.table.allowed in
      let size = h.table.size in
      record {
        form = t;
        heads = record {
          links = h.chain.links;
          count = sym long;
          table = record {
            none = λ e. absurd (h.table.some e);
            some = λ _. record {
              slots_allowed = h.table.allowed;
              there = (has-bytes b heads.table.0 1 (omega arith) (omega (arith, size, some))).there;
              size = h.table.size;
              enough = λ lt. let few = h.table.enough lt in omega (arith, long, few);
              apart = not-within heads.table.0 from-first (recursion_from_All (λ a. a ≢ heads.table.0) from-first h.chain.apart);
            };
          };
          empty = λ e. absurd (h.table.some e);
          hashes = each-of (IsHashed rules b) from-first (recursion_from_All (IsHashed rules b) from-first h.chain.hashes);
          chains = λ _. h.chain.chains;
        };
        many = sym long;
        table = λ _. h.table.some;
        sizes = each-of (Most b) from-first (recursion_from_All (Most b) from-first h.chain.sizes);
      }

  plain-sizes : (xs : List ℕ) → ArePlain b xs → AllByRecursion (Most b) xs
  plain-sizes [] h = tt
  plain-sizes (x ∷ xs) h = (h.0.most, plain-sizes xs h.1)

  of-order : (alone : Bool) → is_ordered method ≡ true → IsSoundOrder rules b alone count heads.root → OfForm rules method b count order-form
  of-order alone o h =
      let same = order-names rules b alone count heads h in
      let plain = ordered_plain method o in
      record {
        form = o;
        heads = subst (HeadsFor rules order-form b) (sym same) (order-stands rules b alone count heads h);
        many = sym (ap length same ∙ h.many);
        table = λ t. absurd (true≢false (sym t ∙ plain));
        sizes = λ a w. each-of (Most b) h.names (plain-sizes h.names h.plain) a (subst (λ z. contains z a ≡ true) same w);
      }

  of-links : has_table method ≡ false → is_ordered method ≡ false → IsSoundList b count heads.first heads.last → OfForm rules method b count links-form
  of-links t o h = record {
    form = (t, o);
    heads = h.stands;
    many = sym (length-from b count heads.first.0);
    table = λ s. absurd (true≢false (sym s ∙ t));
    sizes = each-of (Most b) from-first (recursion_from_All (Most b) from-first h.sizes);
  }

  of-form : AreSoundHolders method rules b count heads → OfForm rules method b count (form_by method count heads)
  of-form h = by (has_table method) refl (is_ordered method) refl
    where
      by : (t : Bool) → has_table method ≡ t → (o : Bool) → is_ordered method ≡ o → OfForm rules method b count (form_by method count heads)
      by true t o e = rw t (of-hash (is_set method) t (h.hash t))
      by false t true o = rw (t, o) (of-order (is_set method) o (h.order o))
      by false t false o = rw (t, o) (of-links t o (h.list t o))

-- each object has 1 to 1,024 bytes
objects-all : (b : Blocks) (xs : List ℕ) → ((a : ℕ) → contains xs a ≡ true → 33 ≤ length (bytes_at b a)) → ((a : ℕ) → contains xs a ≡ true → length (bytes_at b a) ≤ 1056) → AllByRecursion (λ o. IsObject o.bytes) (map (object_of b) xs)
objects-all b [] least most = tt
objects-all b (x ∷ xs) least most =
    let long = length-drop 32 (bytes_at b x) in
    let low = least x (within-head x xs) in
    let high = most x (within-head x xs) in
    (record { least = omega (arith, long, low); most = omega (arith, long, high) }, objects-all b xs (λ a w. least a (within-tail x xs a w)) (λ a w. most a (within-tail x xs a w)))

pub sound-whole : (rules : Rules) (b : Blocks) (method : DictMethod) (kind count : ℕ) (current : Addr) (heads : Heads) → IsSoundBy method rules b count current.0 heads → IsWhole rules (dict_by method kind count current heads) b
sound-whole rules b method kind count current heads h =
    let f = of-form rules b method count heads h.holders in
    record {
      stands = record { form = f.form; heads = f.heads; count = f.many };
      current = h.within;
      table = f.table;
      objects = objects-all b (holders_in method b count heads) (λ a w. ((own-holders method rules b count heads h.holders).there a w).enough) f.sizes;
    }
