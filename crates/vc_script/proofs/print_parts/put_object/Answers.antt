use Rattle.vc_base.proofs.Common.{◌++◌, ◌∙◌, ap, arith, rules, take_all}
use Rattle.percent_encoding.specs.Iter.{encoded_text}
use Rattle.vc_script.proofs.PrintSteps.{front-behind, percent_encode-shown}
use Rattle.vc_script.proofs.print_parts.put_object.Goals as goal

pub loop-piece-init : goal.loop-piece-init
loop-piece-init c =
    record {
      put =
          ap (λ it. c.args.line.now.items ++ encoded_text it) c.into_iter-piece-iterator.ensures.into_iter_gives
          ∙ ap (λ t. c.args.line.now.items ++ t) (c.percent_encode-piece-items.ensures.text ∙ percent_encode-shown c.args.object.now);
      front = take_all _ _ (omega arith);
    }

pub returns-in_err-put : goal.returns-in_err-put
returns-in_err-put c = record { put = search rules; front = front-behind _ _ _ c.loop-piece.invariant.front c.put.ensures.front }
