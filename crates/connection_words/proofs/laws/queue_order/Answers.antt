use Rattle.connection_words.proofs.Order as order
use Rattle.connection_words.proofs.laws.queue_order.Goals as goal

pub returns : goal.returns
returns c =
    record {
      push_appends = λ words q v w. order.push_appends words q w v;
      pop_takes = order.pop_takes;
      push_sound = λ words q v w. order.push_sound words q w v;
      pop_sound = order.pop_sound;
      push_count = λ words q v w. order.push_count words q w v;
      pop_count = order.pop_count;
      push_only = λ words q v p h. order.push_only words q h v p;
      pop_only = λ words q p h. order.pop_only words q h p;
      entries_depend = λ words others q h. order.entries_depend words q h others;
      entries_number = order.entries_number;
    }
