use Rattle.vc_base.proofs.Common.{◌≡◌, true, ap, ◌∙◌, ap₂}
use Rattle.clap.specs.Simple.{app_of, app_of_fields, on_top}
use Rattle.clap.specs.Words.{with_rule}
use Rattle.vc_words.specs.Words.{bare_command}
use Rattle.vc_words.proofs.read.command.Goals as goal

pub returns : goal.returns
returns c =
    let nameless = ap app_of_fields c.no_binary_name.ensures
    ∙ ap (on_top (λ s. record s { no_binary_name = true })) c.new.ensures.app in
    let bare_is : app_of c.disable_help_flag-bare.result ≡ bare_command = ap app_of_fields c.disable_help_flag-bare.ensures
    ∙ ap (on_top (λ s. record s { disable_help_flag = true })) nameless in
    let one = c.in_ok-arg.ensures.shape c.flag.ensures.local ∙ ap₂ with_rule bare_is c.flag.ensures.rule in
    let two = c.in_ok-flags.ensures.shape c.flag-2.ensures.local ∙ ap₂ with_rule one c.flag-2.ensures.rule in
    let three = c.in_ok-arg-2.ensures.shape c.option.ensures.local ∙ ap₂ with_rule two c.option.ensures.rule in
    c.in_ok-arg-3.ensures.shape c.option-2.ensures.local ∙ ap₂ with_rule three c.option-2.ensures.rule
