-- No call changes the method of a region, and so whether it keeps the names of freed blocks.
use Rattle.vc_base.proofs.Common.{◌≡◌, ℕ, Bool, true, false, List, ℤ, sym, refl, ap, ◌∙◌, Terms}
use Rattle.vc_seg.specs.Answer.{IsPut}
use Rattle.vc_seg.specs.declared.method.Method.{Method}
use Rattle.vc_seg.specs.declared.method.Method.TheVariants.{VmDebug}
use Rattle.vc_region.specs.Region.{OfBest, Region, keeps_freed, region_align, region_alloc, region_clear, region_compact, region_poke, region_resize, region_watch, region_write}
use Rattle.vc_region.specs.Stat.{method_of}
use Rattle.vc_region.proofs.Methods.{align-method, alloc-method, clear-method, compact-method, poke-method, resize-method, watch-method, write-method}

abbrev keeps_by : Method → Bool
keeps_by VmDebug = true
keeps_by method = false

by-method : (r : Region ℕ) → keeps_freed r ≡ keeps_by (method_of r)
by-method (OfBest l) = refl
by-method r = refl

keeps-as : (r r' : Region ℕ) → method_of r' ≡ method_of r → keeps_freed r' ≡ keeps_freed r
keeps-as r r' e = by-method r' ∙ (ap keeps_by e ∙ sym (by-method r))

pub alloc-keeps : (terms : Terms) (r : Region ℕ) (tag : ℕ) (site : List ℕ) (size : ℕ) (refused : Bool) (a : ℕ) (r' : Region ℕ) → IsPut (region_alloc terms r tag site size refused) a r' → keeps_freed r' ≡ keeps_freed r
alloc-keeps terms r tag site size refused a r' is = keeps-as r r' (alloc-method terms r tag site size refused a r' is)

pub align-keeps : (terms : Terms) (r : Region ℕ) (tag : ℕ) (site : List ℕ) (size align : ℕ) (refused : Bool) (a : ℕ) (r' : Region ℕ) → IsPut (region_align terms r tag site size align refused) a r' → keeps_freed r' ≡ keeps_freed r
align-keeps terms r tag site size align refused a r' is = keeps-as r r' (align-method terms r tag site size align refused a r' is)

pub resize-keeps : (terms : Terms) (r : Region ℕ) (at : ℕ × ℕ) (size : ℕ) (may_move refused : Bool) (a : ℕ) (r' : Region ℕ) → IsPut (region_resize terms r at size may_move refused) a r' → keeps_freed r' ≡ keeps_freed r
resize-keeps terms r at size may_move refused a r' is = keeps-as r r' (resize-method terms r at size may_move refused a r' is)

pub write-keeps : (r : Region ℕ) (at : ℕ × ℕ) (off : ℕ) (src : List ℕ) → keeps_freed (region_write r at off src) ≡ keeps_freed r
write-keeps r at off src = keeps-as r (region_write r at off src) (write-method r at off src)

pub clear-keeps : (r : Region ℕ) → keeps_freed (region_clear r) ≡ keeps_freed r
clear-keeps r = keeps-as r (region_clear r) (clear-method r)

pub compact-keeps : (r : Region ℕ) → keeps_freed (region_compact r) ≡ keeps_freed r
compact-keeps r = keeps-as r (region_compact r) (compact-method r)

pub poke-keeps : (r : Region ℕ) (at : ℕ × ℕ) (off : ℤ) (byte : ℕ) → keeps_freed (region_poke r at off byte) ≡ keeps_freed r
poke-keeps r at off byte = keeps-as r (region_poke r at off byte) (poke-method r at off byte)

pub watch-keeps : (r : Region ℕ) (at : ℕ × ℕ) (line : ℕ) → keeps_freed (region_watch r at line) ≡ keeps_freed r
watch-keeps r at line = keeps-as r (region_watch r at line) (watch-method r at line)
