use Rattle.vc_region.proofs.region.Region.next_block.Goals as goal

pub next_block-requires-in-Profile : goal.next_block-requires-in-Profile
next_block-requires-in-Profile g c = rw c.in-Profile.is at c.requires

pub returns-in-Best : goal.returns-in-Best
returns-in-Best g c = rw c.in-Best.is c.next_block.ensures

pub returns-in-Debug : goal.returns-in-Debug
returns-in-Debug g c = rw c.in-Debug.is c.next_block-in-Debug.ensures

pub returns-in-Profile : goal.returns-in-Profile
returns-in-Profile g c = rw c.in-Profile.is c.next_block-in-Profile.ensures

pub returns-in-Last : goal.returns-in-Last
returns-in-Last g c = rw c.in-Last.is c.next_block-in-Last.ensures

pub returns-in-Pool : goal.returns-in-Pool
returns-in-Pool g c = rw c.in-Pool.is c.next_block-in-Pool.ensures
