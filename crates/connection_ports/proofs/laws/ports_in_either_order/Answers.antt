use Rattle.connection_ports.proofs.Orders.{both_orders}
use Rattle.connection_ports.proofs.laws.ports_in_either_order.Goals as goal

pub returns : goal.returns
returns c = both_orders
