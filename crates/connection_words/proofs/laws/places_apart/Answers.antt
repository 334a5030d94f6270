use Rattle.connection_words.proofs.Apart as apart
use Rattle.connection_words.proofs.laws.places_apart.Goals as goal

pub returns : goal.returns
returns c s l =
    record {
      header_first = apart.header_first s;
      channels_apart = apart.channels_apart s;
      channels_first = apart.channels_first s;
      segments_apart = apart.segments_apart s;
      details_apart = apart.details_apart s;
      details_inside = apart.details_inside s;
      marks_differ = apart.marks_differ s;
      sizes_differ = apart.sizes_differ s;
      sizes_unmarked = apart.sizes_unmarked s;
      queue_inside = apart.queue_inside s;
      queues_apart = apart.queues_apart s;
      queues_placed = apart.queues_placed s l;
      small = apart.needed_small s l;
    }
