use Rattle.vc_base.proofs.Common.{◌≤◌, length, List, sym, subst}
use Rattle.vc_dict.specs.declared.dict.Dict.{Dict}
use Rattle.vc_image_run.proofs.Loading.{few-dicts, has-out, no-parts, out-again}
use Rattle.vc_image_run.specs.Session.Opens.{AreParts}
use Rattle.vc_model.proofs.Keeping.{Kept-trans}
use Rattle.vc_image_run.proofs.session.open.load_named.Goals as goal

pub parts_of-requires : goal.parts_of-requires
parts_of-requires g c = record {
  few = subst (λ (ds : List Dict). length ds ≤ 256) (sym c.as_slice.ensures) (few-dicts _ _ _ _ _ c.in-Ok.ensures.loaded);
}

pub returns-in-Ok-parts_of-clause-ok : goal.returns-in-Ok-parts_of-clause-ok
returns-in-Ok-parts_of-clause-ok g c = record {
  dicts = c.in-Ok.loaded.1;
  loaded = c.in-Ok.ensures.loaded;
  parts = subst (λ (ds : List Dict). AreParts c.in-Ok.loaded.0 ds c.in-Ok-parts_of.parts.entries.entries c.in-Ok-parts_of.parts.labels) c.as_slice.ensures c.in-Ok-parts_of.ensures.ok;
}

pub close-disc-requires : goal.close-disc-requires
close-disc-requires g c = has-out _ _ _ _ _ c.in-Ok.ensures.loaded _ _ c.in-Ok.ensures.lent

pub returns-clause-fault : goal.returns-clause-fault
returns-clause-fault g c = no-parts _ _ _ _ _ c.in-Ok.ensures.loaded _ _ _ c.in-Err-parts_of.ensures.err

pub returns-clause-out : goal.returns-clause-out
returns-clause-out g c = out-again _ _ _ _ _ c.in-Ok.ensures.loaded _ _ _ c.in-Ok.ensures.lent c.close-disc.ensures.disc

pub returns-clause-kept : goal.returns-clause-kept
returns-clause-kept g c = Kept-trans _ _ _ c.in-Ok.ensures.lent.kept c.close-disc.ensures.disc.kept
