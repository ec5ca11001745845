-- No call changes the method of a region.
use Rattle.vc_base.proofs.Common.{◌≡◌, ℕ, Bool, List, ℤ, refl, ap, ◌∙◌, best_alloc, Terms, last_alloc, last_resize, Done, Outcome, Put, Refused, outcome_as, pool_alloc, pool_resize, best_resize}
use Rattle.vc_audit.specs.Debug.{debug_alloc, debug_resize}
use Rattle.vc_audit.specs.Profile.{profile_alloc, profile_resize}
use Rattle.vc_seg.specs.Answer.{IsPut}
use Rattle.vc_seg.specs.declared.method.Method.{Method}
use Rattle.vc_seg.specs.declared.method.Method.TheVariants.{VmBest, VmPool, VmLast, VmDebug, VmProfile}
use Rattle.vc_region.specs.Region.{OfBest, OfPool, OfLast, OfDebug, OfProfile, Region, region_align, region_alloc, region_clear, region_compact, region_free, region_poke, region_resize, region_watch, region_write}
use Rattle.vc_region.specs.Stat.{method_of}
use Rattle.vc_region.proofs.Freeing.{freed-region, without_block_in}

put-method : {B : Type 0} (make : B → Region ℕ) (method : Method) → ((x : B) → method_of (make x) ≡ method) → (o : Outcome (Put B)) (a : ℕ) (r : Region ℕ) → IsPut (outcome_as make o) a r → method_of r ≡ method
put-method make method all (Done p) a r is = ap method_of is.2 ∙ all p.region
put-method make method all (Refused why) a r is = absurd is

pub alloc-method : (terms : Terms) (r : Region ℕ) (tag : ℕ) (site : List ℕ) (size : ℕ) (refused : Bool) (a : ℕ) (r' : Region ℕ) → IsPut (region_alloc terms r tag site size refused) a r' → method_of r' ≡ method_of r
alloc-method terms (OfBest l) tag site size refused a r' is = put-method OfBest VmBest (λ q. refl) (best_alloc terms l tag size 32 refused) a r' is
alloc-method terms (OfPool p) tag site size refused a r' is = put-method OfPool VmPool (λ q. refl) (pool_alloc terms p tag size refused) a r' is
alloc-method terms (OfLast l) tag site size refused a r' is = put-method OfLast VmLast (λ q. refl) (last_alloc terms l tag size refused) a r' is
alloc-method terms (OfDebug d) tag site size refused a r' is = put-method OfDebug VmDebug (λ q. refl) (debug_alloc terms d tag size refused) a r' is
alloc-method terms (OfProfile p) tag site size refused a r' is = put-method OfProfile VmProfile (λ q. refl) (profile_alloc terms p tag site size 32 refused) a r' is

pub align-method : (terms : Terms) (r : Region ℕ) (tag : ℕ) (site : List ℕ) (size align : ℕ) (refused : Bool) (a : ℕ) (r' : Region ℕ) → IsPut (region_align terms r tag site size align refused) a r' → method_of r' ≡ method_of r
align-method terms (OfBest l) tag site size align refused a r' is = put-method OfBest VmBest (λ q. refl) (best_alloc terms l tag size align refused) a r' is
align-method terms (OfProfile p) tag site size align refused a r' is = put-method OfProfile VmProfile (λ q. refl) (profile_alloc terms p tag site size align refused) a r' is
align-method terms r tag site size align refused a r' is = absurd is

pub resize-method : (terms : Terms) (r : Region ℕ) (at : ℕ × ℕ) (size : ℕ) (may_move refused : Bool) (a : ℕ) (r' : Region ℕ) → IsPut (region_resize terms r at size may_move refused) a r' → method_of r' ≡ method_of r
resize-method terms (OfBest l) at size may_move refused a r' is = put-method OfBest VmBest (λ q. refl) (best_resize terms l at size may_move refused) a r' is
resize-method terms (OfPool p) at size may_move refused a r' is = put-method OfPool VmPool (λ q. refl) (pool_resize p at size) a r' is
resize-method terms (OfLast l) at size may_move refused a r' is = put-method OfLast VmLast (λ q. refl) (last_resize terms l at size may_move refused) a r' is
resize-method terms (OfDebug d) at size may_move refused a r' is = put-method OfDebug VmDebug (λ q. refl) (debug_resize terms d at size may_move refused) a r' is
resize-method terms (OfProfile p) at size may_move refused a r' is = put-method OfProfile VmProfile (λ q. refl) (profile_resize terms p at size may_move refused) a r' is

without-method : (r : Region ℕ) (at : ℕ × ℕ) → method_of (without_block_in r at) ≡ method_of r
without-method (OfBest l) at = refl
without-method r at = refl

pub free-method : (r r' : Region ℕ) (at : ℕ × ℕ) → region_free r at ≡ Done r' → method_of r' ≡ method_of r
free-method r r' at e = ap method_of (freed-region r at r' e) ∙ without-method r at

pub write-method : (r : Region ℕ) (at : ℕ × ℕ) (off : ℕ) (src : List ℕ) → method_of (region_write r at off src) ≡ method_of r
write-method (OfBest l) at off src = refl
write-method r at off src = refl

pub clear-method : (r : Region ℕ) → method_of (region_clear r) ≡ method_of r
clear-method (OfBest l) = refl
clear-method r = refl

pub compact-method : (r : Region ℕ) → method_of (region_compact r) ≡ method_of r
compact-method (OfBest l) = refl
compact-method r = refl

pub poke-method : (r : Region ℕ) (at : ℕ × ℕ) (off : ℤ) (byte : ℕ) → method_of (region_poke r at off byte) ≡ method_of r
poke-method (OfBest l) at off byte = refl
poke-method r at off byte = refl

pub watch-method : (r : Region ℕ) (at : ℕ × ℕ) (line : ℕ) → method_of (region_watch r at line) ≡ method_of r
watch-method (OfBest l) at line = refl
watch-method r at line = refl
