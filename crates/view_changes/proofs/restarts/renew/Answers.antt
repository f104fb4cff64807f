-- What the check does not find alone.
use Rattle.view_changes.specs.Restarts.{restarted_kept, restarted_new}
use Rattle.view_changes.proofs.restarts.renew.Goals as goal

pub returns-then-v-ne0 : goal.returns-then-v-ne0
returns-then-v-ne0 c = restarted_new c.requires c.empty.ensures c.store_administrator.ensures c.if-v-ne0.true c.store_view.ensures

pub returns-else-v-ne0 : goal.returns-else-v-ne0
returns-else-v-ne0 c = restarted_kept c.requires c.empty.ensures c.store_administrator.ensures c.if-v-ne0.false
