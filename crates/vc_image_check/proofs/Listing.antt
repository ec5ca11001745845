-- Holders that are written down one by one, each told by the one before it.
use Rattle.vc_base.proofs.Common.{◌≡◌, ℕ, suc, List, [], ◌∷◌, ◌++◌, sym, ap, ◌∙◌, subst, append_assoc}
use Rattle.vc_base.specs.Cells.{Blocks, word_at}
use Rattle.vc_dtlist.specs.Linked.{Chain}
use Rattle.vc_dict.specs.Listed.{holders_from}

module _ (b : Blocks) (count first : ℕ) where
  -- those written and those left are all, and those left are linked behind one
  pub record Listing (items : List ℕ) (at left : ℕ) : Type 0 where
    pub before : ℕ
    pub whole : holders_from b count first ≡ items ++ holders_from b left at
    pub chain : Chain b before (holders_from b left at) 0

  module _ (items : List ℕ) (at left n : ℕ) (e : left ≡ suc n) (l : Listing items at left) where
    linked : Chain b l.before (at ∷ holders_from b n (word_at b at 1)) 0
    linked = subst (λ z. Chain b l.before (holders_from b z at) 0) e l.chain

    pub listing-next : (next : ℕ) → next ≡ word_at b at 1 → Listing (items ++ at ∷ []) next n
    listing-next next is = record {
      before = at;
      whole = l.whole ∙ ap (λ z. items ++ holders_from b z at) e ∙ sym (append_assoc items (at ∷ []) (holders_from b n (word_at b at 1)))
          ∙ ap (λ z. (items ++ at ∷ []) ++ holders_from b n z) (sym is);
      chain = subst (λ z. Chain b at (holders_from b n z) 0) (sym is) linked.1;
    }
