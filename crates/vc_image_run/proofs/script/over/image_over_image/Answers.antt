use Rattle.vc_base.proofs.Common.{refl}
use Rattle.vc_image_run.proofs.Overs.{keeps-over, opened-proper, remakes-over}
use Rattle.vc_session.proofs.SessionLasts.{lent-same}
use Rattle.vc_image_run.proofs.script.over.image_over_image.Goals as goal

pub run_and_save-remade-requires-clause-session : goal.run_and_save-remade-requires-clause-session
run_and_save-remade-requires-clause-session g c = opened-proper c.in-Ok-session_of_image.ensures.opens

pub returns-in_default-clause-keeps : goal.returns-in_default-clause-keeps
returns-in_default-clause-keeps g c = lent-same

pub returns-in-Err-clause-keeps : goal.returns-in-Err-clause-keeps
returns-in-Err-clause-keeps g c = record {
  disciplines = record { accounts = c.in-Err.ensures.accounts; asked = λ first. c.in-Err.ensures.asked };
  keeps_rules = refl;
  arms_none = c.session_of_image.ensures.unarmed;
}

pub returns-in-Ok-remade-clause-remakes : goal.returns-in-Ok-remade-clause-remakes
returns-in-Ok-remade-clause-remakes g c =
    remakes-over c.in-Ok-session_of_image.ensures.opens g.D.DictDisc.gone _ c.end.new.shelf _ _ c.end.new.kinds.items _ _ _ c.run_and_save-remade.ensures c.end.ensures.shelf c.end.ensures.gone _ c.in-Ok-remade.is

pub returns-in-Ok-remade-clause-keeps : goal.returns-in-Ok-remade-clause-keeps
returns-in-Ok-remade-clause-keeps g c =
    keeps-over c.in-Ok-session_of_image.ensures.opens g.D.DictDisc.gone _ c.end.new.shelf _ _ c.end.new.kinds.items _ _ _ c.run_and_save-remade.ensures c.end.ensures.shelf c.end.ensures.gone c.session_of_image.ensures.unarmed c.end.ensures.rules c.end.ensures.unarmed

pub returns-clause-remakes : goal.returns-clause-remakes
returns-clause-remakes g c =
    remakes-over c.in-Ok-session_of_image.ensures.opens g.D.DictDisc.gone _ c.end.new.shelf _ _ c.end.new.kinds.items _ _ _ c.run_and_save-remade.ensures c.end.ensures.shelf c.end.ensures.gone _ c.in-Err-remade.is

pub returns-clause-keeps : goal.returns-clause-keeps
returns-clause-keeps g c =
    keeps-over c.in-Ok-session_of_image.ensures.opens g.D.DictDisc.gone _ c.end.new.shelf _ _ c.end.new.kinds.items _ _ _ c.run_and_save-remade.ensures c.end.ensures.shelf c.end.ensures.gone c.session_of_image.ensures.unarmed c.end.ensures.rules c.end.ensures.unarmed
