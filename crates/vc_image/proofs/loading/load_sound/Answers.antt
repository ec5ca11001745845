use Rattle.vc_base.proofs.Common.{refl}
use Rattle.vc_region.specs.declared.region.Region.TheVariants.{Best as OfBest}
use Rattle.vc_image.proofs.Loads.{loaded-of}
use Rattle.vc_image.proofs.loading.load_sound.Goals as goal

pub returns-in-Ok-region_of_image-clause-loaded : goal.returns-in-Ok-region_of_image-clause-loaded
returns-in-Ok-region_of_image-clause-loaded g c = λ kinds sound.
    loaded-of kinds _ c.args.image.now (OfBest c.in-Ok-region_of_image.best) c.in-Ok-region_of_image.best c.in-Ok.dicts sound
    c.in-Ok-region_of_image.ensures.allowed refl c.in-Ok-region_of_image.ensures.segments c.in-Ok-region_of_image.ensures.root c.in-Ok.ensures.made c.in-Ok.ensures.kinds
