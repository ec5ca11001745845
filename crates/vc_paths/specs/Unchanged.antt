-- A store of layers in which a call changes nothing that shows.
use Rattle.vc_paths.specs.Layers.{Same}
use Rattle.vc_paths.specs.declared.layers.Layers.{Ghosts}

-- from one state of it to another one each layer is as it was, and so is what doesn't show in them
pub record Unchanged {L : Type 0} (store : Ghosts L) (old new : L) : Type 0 where
  pub layers : Same (store.layered old) (store.layered new)
  pub stays : store.Stays old new
