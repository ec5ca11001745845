-- The numbers of a whole dictionary are sound.
use Rattle.vc_base.proofs.Common.{◌≡◌, ◌≢◌, ℕ, ◌≤◌, true, List, [], ◌∷◌, length, AreDistinct, contains, sym, refl, ap, ◌∙◌, subst, arith, true≢false, length-drop, AllByRecursion}
use Rattle.std.proofs.lemmas.List.Elements.{recursion_from_All}
use Rattle.vc_base.specs.declared.dict_method.DictMethod.{DictMethod}
use Rattle.vc_base.specs.Cells.{Blocks, bytes_at}
use Rattle.vc_base.specs.Methods.{has_table, is_set}
use Rattle.vc_base.proofs.Members.{differs, within-head, within-tail}
use Rattle.vc_dtdisc.specs.Rules.{AreLawful, IsObject, Rules}
use Rattle.vc_dthash.specs.Chained.{IsHashed}
use Rattle.vc_dtord.specs.Ordered.{IsPlain}
use Rattle.vc_dict.specs.declared.dict.Dict.{Dict}
use Rattle.vc_dict.specs.declared.form.Form.{Form}
use Rattle.vc_dict.specs.declared.form.Form.TheVariants.{Hash, Links, Order}
use Rattle.vc_dict.specs.Listed.{holders_by, holders_of}
use Rattle.vc_dict.specs.Parts.{HasNoOtherHeads, dict_by, form_by, heads_at, heads_in}
use Rattle.vc_dict.specs.Stands.{HeadsFor, IsForm, table_at}
use Rattle.vc_dict.proofs.HeadLemmas.{ordered_plain}
use Rattle.vc_objects.specs.Parts.{IsWhole}
use Rattle.vc_objects.proofs.Owning.{each-object}
use Rattle.vc_image_check.specs.Orders.Sound.{ArePlain}
use Rattle.vc_image_check.specs.Dicts.Alone.{AreAlone}
use Rattle.vc_image_check.specs.Dicts.Sound.{AreSoundHolders, IsSoundBy, holders_in}
use Rattle.vc_image.proofs.Rising.{ascending-of}
use Rattle.vc_dthash.proofs.MarkLemmas.{all-of}

-- heads of a method's form have 0 where it has no use for them
others-of : (method : DictMethod) (f : Form) → IsForm method f → HasNoOtherHeads method (heads_at f)
others-of method (Hash hash) t = record {
  ends = λ o. absurd (true≢false (sym t ∙ ordered_plain method o));
  root = λ _. refl;
  table = λ n. absurd (true≢false (sym t ∙ n));
}
others-of method (Order ord) o = record {
  ends = λ _. record { first = refl; last = refl };
  root = λ n. absurd (true≢false (sym o ∙ n));
  table = λ _. record { table = refl; slots = refl };
}
others-of method (Links list) plain = record {
  ends = λ o. absurd (true≢false (sym o ∙ plain.1));
  root = λ _. refl;
  table = λ _. record { table = refl; slots = refl };
}

-- a form is that of its heads
form-back : (rules : Rules) (b : Blocks) (xs : List ℕ) (method : DictMethod) (count : ℕ) (f : Form) → IsForm method f → HeadsFor rules f b xs → count ≡ length xs → f ≡ form_by method count (heads_at f)
form-back rules b xs method count (Hash hash) t h e =
    rw t (ap (λ (n : ℕ). Hash (record { first = hash.first; last = hash.last; table = hash.table; slots = hash.slots; count = n })) (h.count ∙ sym e))
form-back rules b xs method count (Order ord) o h e = rw (ordered_plain method o, o) refl
form-back rules b xs method count (Links list) plain h e = rw (plain.0, plain.1) refl

pub dict-back : (rules : Rules) (d : Dict) (b : Blocks) → IsWhole rules d b → d ≡ dict_by d.method d.kind d.count d.current (heads_in d)
dict-back rules d b w =
    ap (λ (f : Form). record { method = d.method; kind = d.kind; count = d.count; current = d.current; heads = f })
    (form-back rules b (holders_of d b) d.method d.count d.heads w.stands.form w.stands.heads w.stands.count)

pub holders-back : (rules : Rules) (d : Dict) (b : Blocks) → IsWhole rules d b → holders_in d.method b d.count (heads_in d) ≡ holders_of d b
holders-back rules d b w =
    ap (λ (f : Form). holders_by f b d.count) (sym (form-back rules b (holders_of d b) d.method d.count d.heads w.stands.form w.stands.heads w.stands.count))

-- what holds at each address in a list
each-in : (P : ℕ → Type 0) (xs : List ℕ) → ((a : ℕ) → contains xs a ≡ true → P a) → AllByRecursion P xs
each-in P [] f = tt
each-in P (x ∷ xs) f = (f x (within-head x xs), each-in P xs (λ a w. f a (within-tail x xs a w)))

both-in : (b : Blocks) (xs : List ℕ) → AllByRecursion (IsPlain b) xs → AllByRecursion (λ a. length (bytes_at b a) ≤ 1056) xs → ArePlain b xs
both-in b [] p q = tt
both-in b (x ∷ xs) p q = (record { plain = p.0; most = q.0 }, both-in b xs p.1 q.1)

module _ (rules : Rules) (lawful : AreLawful rules) (b : Blocks) (method : DictMethod) (count : ℕ) where
  Small : ℕ → Type 0
  Small a = length (bytes_at b a) ≤ 1056

  sound-by : (f : Form) → IsForm method f → HeadsFor rules f b (holders_by f b count) → count ≡ length (holders_by f b count)
      → ((a : ℕ) → contains (holders_by f b count) a ≡ true → length (bytes_at b a) ≤ 1056) → (has_table method ≡ true → (table_at f).0 ≢ 0)
      → (is_set method ≡ true → AreAlone rules b (holders_by f b count)) → AreSoundHolders method rules b count (heads_at f)
  sound-by (Hash hash) t h e small table lone =
      let xs : List ℕ = holders_by (Hash hash) b count in
      let is = h.table.some (table t) in
      record {
        hash = λ _. record {
          table = record { some = table t; allowed = is.slots_allowed; size = is.size; enough = λ lt. let few = is.enough lt in omega (arith, few, e) };
          chain = record {
            links = h.links;
            sizes = all-of (λ a. length (bytes_at b a) ≤ 1056) xs small;
            apart = all-of (λ a. a ≢ hash.table.0) xs (λ a w. differs xs a hash.table.0 w is.apart);
            hashes = all-of (IsHashed rules b) xs h.hashes;
            chains = h.chains (table t);
          };
          lone = lone;
        };
        order = λ o. absurd (true≢false (sym t ∙ ordered_plain method o));
        list = λ n. absurd (true≢false (sym t ∙ n));
      }
  sound-by (Order ord) o h e small table lone =
      let xs : List ℕ = holders_by (Order ord) b count in
      record {
        hash = λ t. absurd (true≢false (sym t ∙ ordered_plain method o));
        order = λ _. record {
          names = xs;
          tree = record { tree = h.tree; stands = h.is_tree.stands; top = h.is_tree.top; list = h.list };
          distinct = subst AreDistinct h.list h.is_tree.distinct;
          many = sym e;
          plain = both-in b xs (recursion_from_All (IsPlain b) xs h.plain) (each-in (λ a. length (bytes_at b a) ≤ 1056) xs small);
          ascending = ascending-of rules lawful.order b (is_set method) xs h.sorted lone;
        };
        list = λ _ n. absurd (true≢false (sym o ∙ n));
      }
  sound-by (Links list) plain h e small table lone =
      record {
        hash = λ t. absurd (true≢false (sym t ∙ plain.0));
        order = λ o. absurd (true≢false (sym o ∙ plain.1));
        list = λ _ _. record { stands = h; sizes = all-of (λ a. length (bytes_at b a) ≤ 1056) (holders_by (Links list) b count) small };
      }

pub whole-sound : (rules : Rules) (d : Dict) (b : Blocks) → AreLawful rules → IsWhole rules d b → (is_set d.method ≡ true → AreAlone rules b (holders_of d b)) → IsSoundBy d.method rules b d.count d.current.0 (heads_in d)
whole-sound rules d b lawful w lone = record {
  others = others-of d.method d.heads w.stands.form;
  holders = sound-by rules lawful b d.method d.count d.heads w.stands.form w.stands.heads w.stands.count
      (λ a k.
      let o = each-object IsObject b (holders_of d b) w.objects a k in
      let most = o.most in
      let long = length-drop 32 (bytes_at b a) in
      omega (arith, most, long))
      w.table lone;
  within = subst (λ z. contains (0 ∷ z) d.current.0 ≡ true) (sym (holders-back rules d b w)) w.current;
}
