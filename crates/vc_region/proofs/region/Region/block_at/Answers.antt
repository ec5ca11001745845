use Rattle.vc_region.proofs.region.Region.block_at.Goals as goal

pub returns-in-Best : goal.returns-in-Best
returns-in-Best g c = rw c.in-Best.is c.block_at.ensures

pub returns-in-Debug : goal.returns-in-Debug
returns-in-Debug g c = rw c.in-Debug.is c.block_at-in-Debug.ensures

pub returns-in-Profile : goal.returns-in-Profile
returns-in-Profile g c = rw c.in-Profile.is c.block_at-in-Profile.ensures

pub returns-in-Last : goal.returns-in-Last
returns-in-Last g c = rw c.in-Last.is c.block_at-in-Last.ensures

pub returns-in-Pool : goal.returns-in-Pool
returns-in-Pool g c = rw c.in-Pool.is c.block_at-in-Pool.ensures
