-- What a sink tells as a piece is written in parts.
use Rattle.vc_base.proofs.Common.{◌≡◌, ℕ, ◌+◌, List, ◌++◌, take, drop, IfSome, Some, None, Option, sym, ap, ◌∙◌, subst, append_assoc, take-add}
use Rattle.vc_model.specs.Stream.{Writes}

told-more : (w : List ℕ) (now after : Option (List ℕ)) (piece : List ℕ) (done n : ℕ) → now ≡ Some (w ++ take done piece) → IfSome now (λ bytes. after ≡ Some (bytes ++ take n (drop done piece))) → after ≡ Some (w ++ take (done + n) piece)
told-more w now after piece done n e told =
    let one : after ≡ Some ((w ++ take done piece) ++ take n (drop done piece)) = subst (λ (o : Option (List ℕ)). IfSome o (λ bytes. after ≡ Some (bytes ++ take n (drop done piece)))) e told in
    one ∙ ap (λ x. Some x) (append_assoc w (take done piece) (take n (drop done piece)) ∙ ap (λ x. w ++ x) (sym (take-add done n piece)))

-- n more bytes of a piece, behind those that are written
pub written-more : (before now after : Option (List ℕ)) (piece : List ℕ) (done n : ℕ) → IfSome before (λ w. now ≡ Some (w ++ take done piece)) → Writes now after (drop done piece) n → IfSome before (λ w. after ≡ Some (w ++ take (done + n) piece))
written-more None now after piece done n so_far one = tt
written-more (Some w) now after piece done n so_far one = told-more w now after piece done n so_far one.told
