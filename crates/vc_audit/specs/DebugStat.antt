-- The numbers of a debug region: its blocks by the user's sizes, its gaps as in the best region.
use Rattle.vc_model.specs.Numbers.{block_bytes, greatest_block}
use Rattle.vc_seg.specs.Stat.{layout_stat}
use Rattle.vc_seg.specs.declared.stat.Stat.{Stat}
use Rattle.vc_audit.specs.Debug.{Debug, user_layout}

abbrev pub debug_stat : {L : Type 0} → Debug L → Stat
debug_stat d = record (layout_stat d.best) { sbusy = block_bytes (user_layout d); mbusy = greatest_block (user_layout d) }
