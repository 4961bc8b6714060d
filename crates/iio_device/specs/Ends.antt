-- What the ends of the queues that there are tell a device: the ghost members of `Tail` over their plain records.
use Rattle.std.specs.Prelude.{length}
use Rattle.iio_kfifo.specs.declared.tail.Tail.{Ghosts}
use Rattle.iio_kfifo.specs.Ends.{Offers as WriterOffers, WriterEnd}
use Rattle.iio_kfifo.specs.Offers.{accepted, lost_in}
use Rattle.iio_kfifo.specs.Queue.{Offers as QueueOffers, Queue}

-- a queue of one owner
abbrev pub queue_end : Ghosts Queue
queue_end = record { taken = λ q. q.taken; lost = λ q. q.lost; size = λ q. q.size; capacity = λ q. q.capacity; offer_gives = QueueOffers }

-- the writer's end of a ring
abbrev pub writer_end : Ghosts WriterEnd
writer_end =
    record {
      taken = λ w. length (accepted w.knows.offers);
      lost = λ w. lost_in w.knows.offers;
      size = λ w. w.size;
      capacity = λ w. w.capacity;
      offer_gives = WriterOffers;
    }
