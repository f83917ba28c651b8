-- What a still file in memory shows.
use Rattle.std.specs.Prelude.{ℕ, List, Option, Some, length}
use Rattle.tc_store.specs.declared.file_name.FileName.{FileName}
use Rattle.tc_store.specs.declared.mem.frozen.MemFrozen.{MemFrozen}

-- its member `name`
abbrev pub frozen_name : MemFrozen → FileName
frozen_name file = file.name

-- its member `size`
abbrev pub frozen_size : MemFrozen → ℕ
frozen_size file = length file.bytes.value.items

-- its member `content`
abbrev pub frozen_content : MemFrozen → Option (List ℕ)
frozen_content file = Some file.bytes.value.items
