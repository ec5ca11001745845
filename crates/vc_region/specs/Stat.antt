-- The numbers of a region, its method, and a new region, by the method.
use Rattle.vc_model.specs.Layout.{empty_layout}
use Rattle.vc_model.specs.Pool.{empty_pool}
use Rattle.vc_audit.specs.Debug.{empty_debug}
use Rattle.vc_audit.specs.DebugStat.{debug_stat}
use Rattle.vc_audit.specs.Profile.{bare_layout, empty_profile}
use Rattle.vc_region.specs.Region.{Region, OfBest, OfPool, OfLast, OfDebug, OfProfile}
use Rattle.vc_pool.specs.Stat.{pool_stat}
use Rattle.vc_seg.specs.Stat.{layout_stat}
use Rattle.vc_seg.specs.declared.method.Method.{Method}
use Rattle.vc_seg.specs.declared.method.Method.TheVariants.{VmBest, VmPool, VmLast, VmDebug, VmProfile}
use Rattle.vc_seg.specs.declared.stat.Stat.{Stat}

abbrev pub stat_of : {L : Type 0} → Region L → Stat
stat_of (OfBest layout) = layout_stat layout
stat_of (OfPool pool) = pool_stat pool
stat_of (OfLast layout) = layout_stat layout
stat_of (OfDebug debug) = debug_stat debug
stat_of (OfProfile profile) = layout_stat (bare_layout profile)

-- the method of a region
abbrev pub method_of : {L : Type 0} → Region L → Method
method_of (OfBest layout) = VmBest
method_of (OfPool pool) = VmPool
method_of (OfLast layout) = VmLast
method_of (OfDebug debug) = VmDebug
method_of (OfProfile profile) = VmProfile

-- a region of a method with no segment and no block
abbrev pub opened_region : {L : Type 0} → Method → Region L
opened_region VmBest = OfBest empty_layout
opened_region VmPool = OfPool empty_pool
opened_region VmLast = OfLast empty_layout
opened_region VmDebug = OfDebug empty_debug
opened_region VmProfile = OfProfile empty_profile
