use Rattle.std.proofs.Common.{sym, ◌∙◌}
use Rattle.connection_ports.proofs.Steps.{some_is, some_true, none_false}
use Rattle.zero_copy_connection.proofs.Opens.{no_connection, no_channel, by_queues}
use Rattle.zero_copy_connection.proofs.common.open_channel.Goals as goal

pub returns-in_default : goal.returns-in_default
returns-in_default g c =
    record {
      answer = no_connection (g.S.DynamicStorage.condition c.args.storage.now) (g.S.DynamicStorage.words c.args.storage.now) c.args.channel (none_false _ _ c.in_default.ensures);
      settings = tt;
      index = tt;
      sound = tt;
    }

pub returns-in_default-channel : goal.returns-in_default-channel
returns-in_default-channel g c =
    let k = g.S.DynamicStorage.condition c.args.storage.now in
    let words = g.S.DynamicStorage.words c.args.storage.now in
    record {
      answer = no_channel k words c.args.channel c.in-Some.layout.settings (some_true _ _ _ c.in-Some.ensures) (some_is _ _ _ c.in-Some.ensures) (none_false _ _ c.in_default-channel.ensures.settings);
      settings = tt;
      index = tt;
      sound = tt;
    }

pub returns-then-not-is_sound : goal.returns-then-not-is_sound
returns-then-not-is_sound g c =
    let k = g.S.DynamicStorage.condition c.args.storage.now in
    let words = g.S.DynamicStorage.words c.args.storage.now in
    let settings = c.in-Some-channel.ensures.settings in
    record {
      answer = by_queues k words c.args.channel c.in-Some.layout.settings (some_true _ _ _ c.in-Some.ensures) (some_is _ _ _ c.in-Some.ensures) c.in-Some-channel.opened.layout.settings c.in-Some-channel.opened.index _ (some_true _ _ _ settings) (some_is _ _ _ settings) (some_is _ _ _ c.in-Some-channel.ensures.index) c.if-not-is_sound.ensures;
      settings = tt;
      index = tt;
      sound = tt;
    }

pub returns : goal.returns
returns g c =
    let k = g.S.DynamicStorage.condition c.args.storage.now in
    let words = g.S.DynamicStorage.words c.args.storage.now in
    let settings = c.in-Some-channel.ensures.settings in
    let index = some_is _ _ _ c.in-Some-channel.ensures.index in
    let stated = some_is _ _ _ c.in-Some.ensures in
    record {
      answer = by_queues k words c.args.channel c.in-Some.layout.settings (some_true _ _ _ c.in-Some.ensures) stated c.in-Some-channel.opened.layout.settings c.in-Some-channel.opened.index _ (some_true _ _ _ settings) (some_is _ _ _ settings) index c.if-not-is_sound.ensures;
      settings = some_is _ _ _ settings ∙ stated;
      index = index;
      sound = sym c.if-not-is_sound.ensures;
    }
