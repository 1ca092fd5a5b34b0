use Rattle.std.proofs.Common.{refl, sym, subst}
use Rattle.gx_words.specs.Image.{Image}
use Rattle.gx_log.specs.Records.{Stands}
use Rattle.gx_pager.specs.Cached.{Agrees}
use Rattle.gx_pager.specs.Layers.{pieces}
use Rattle.gx_pager.specs.Memory.{overlay}
use Rattle.gx_pager.proofs.Moments.{sound_same}
use Rattle.gx_pager.proofs.pager.PagerKeeper.answer.Goals as goal

pub invariant_of-self : goal.invariant_of-self
invariant_of-self g c =
    let p = c.args.self.now in
    let a = c.answer.ensures in
    record {
      sound = λ tells fine. sound_same g.H.Disk p.host.now c.answer.new.self p.log p.layers.header p.layers.header (overlay p.layers) (overlay p.layers) a.told (λ image. (a.images image).0) refl refl (p.sound tells fine);
      waits = λ tells fine records stands. p.waits tells fine records (subst (λ (i : Image). Stands records i.log) a.told stands);
      agrees = λ tells. subst (λ (i : Image). Agrees (pieces i) p.cache.pages.entries) (sym a.told) (p.agrees tells);
    }
