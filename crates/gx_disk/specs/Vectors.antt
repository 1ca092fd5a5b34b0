-- Both areas in memory, seen as an image.
use Rattle.gx_words.specs.Image.{Image}
use Rattle.gx_disk.specs.declared.areas.Areas.{Areas}

abbrev pub image_of : Areas → Image
image_of areas = record { pages = areas.pages.items; log = areas.log.items }
