use Rattle.gx_index.proofs.ItemRows.{gin_of}
use Rattle.gx_index.proofs.items.GinKept.stays.Goals as goal

pub returns-clause-below : goal.returns-clause-below
returns-clause-below g c rows map count feet held = c.index_stays.ensures.below map count c.args.self.now.root held.lists feet held.held

pub returns-clause-stays : goal.returns-clause-stays
returns-clause-stays g c old new rows feet before free after rest b keeps apart below =
    let class = c.args.self.now.class in
    let root = c.args.self.now.root in
    let datum = g.C.ItemClass.datum in
    let later = c.index_stays.ensures.stays old new root b.held.lists feet before free after rest (gin_of g.C.GinClass class datum g.P.Pages root rows feet free old b) keeps apart below in
    record {
      held = record { values = b.held.values; are = b.held.are; lists = b.held.lists; held = later.held; index = b.held.index };
      frees = later.frees;
      apart = later.apart;
    }
