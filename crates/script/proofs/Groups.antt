-- The groups of keywords, opened.
use Rattle.std.proofs.Common.{◌≡◌, ℕ, List, Err, refl}
use Rattle.script.specs.declared.call.Expected.TheVariants as expected
use Rattle.script.specs.Grammar.{by_table, transfer_lines, transfer_call, port_lines, port_call, address_lines, address_call, condition_lines, condition_call}

pub transfer_call_is : (k : List ℕ) (ws : List (List ℕ)) → by_table transfer_lines k (λ _. Err expected.Keyword) ws ≡ transfer_call k ws
unfolding transfer_call
transfer_call_is k ws = refl

pub port_call_is : (k : List ℕ) (ws : List (List ℕ)) → by_table port_lines k (transfer_call k) ws ≡ port_call k ws
unfolding port_call
port_call_is k ws = refl

pub address_call_is : (k : List ℕ) (ws : List (List ℕ)) → by_table address_lines k (port_call k) ws ≡ address_call k ws
unfolding address_call
address_call_is k ws = refl

pub condition_call_is : (k : List ℕ) (ws : List (List ℕ)) → by_table condition_lines k (address_call k) ws ≡ condition_call k ws
unfolding condition_call
condition_call_is k ws = refl
